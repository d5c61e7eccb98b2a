use Rattle.plan_check.proofs.Decided.{verdict-is}
use Rattle.plan_check.proofs.laws.lists_are_judged.Goals as goal

pub returns : goal.returns
returns g c = λ columns. verdict-is (g.C.Columns.problem columns)
