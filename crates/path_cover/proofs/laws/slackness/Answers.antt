use Rattle.path_cover.proofs.Slack.{least_is_slack, slack_is_least}
use Rattle.path_cover.proofs.laws.slackness.Goals as goal

pub returns : goal.returns
returns c = record { least = slack_is_least; all = least_is_slack }
