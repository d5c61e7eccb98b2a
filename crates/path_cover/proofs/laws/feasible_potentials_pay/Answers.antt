use Rattle.path_cover.proofs.Slack.{feasible_is_paid, slack_is_bound}
use Rattle.path_cover.proofs.laws.feasible_potentials_pay.Goals as goal

pub returns : goal.returns
returns c = record { paid = feasible_is_paid; bound = slack_is_bound }
