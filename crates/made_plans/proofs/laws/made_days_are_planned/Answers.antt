use Rattle.made_plans.proofs.MadeRoomy.{made_roomy}
use Rattle.made_plans.proofs.Planned.{made_refused}
use Rattle.made_plans.proofs.laws.made_days_are_planned.Goals as goal

pub returns-clause-roomy : goal.returns-clause-roomy
returns-clause-roomy c = made_roomy

pub returns-clause-refusal : goal.returns-clause-refusal
returns-clause-refusal c = made_refused
