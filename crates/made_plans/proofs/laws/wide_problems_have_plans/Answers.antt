use Rattle.made_plans.proofs.Wide.{has_plan, not_refused}
use Rattle.made_plans.proofs.laws.wide_problems_have_plans.Goals as goal

pub returns-clause-plan : goal.returns-clause-plan
returns-clause-plan g c = λ columns. has_plan _ (g.met.C.Columns.listed columns)

pub returns-clause-refusal : goal.returns-clause-refusal
returns-clause-refusal g c = λ counted costed. not_refused _ _ (g.met.C.Columns.listed costed)
