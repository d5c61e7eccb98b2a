use Rattle.plan_check.proofs.Lists.{plans-found}
use Rattle.plan_check.proofs.laws.plans_are_found.Goals as goal

pub returns : goal.returns
returns g c = λ columns. plans-found (g.C.Columns.problem columns)
