use Rattle.cover_core.proofs.Duality.{least_is_paid, covering_is_paid}
use Rattle.cover_core.proofs.laws.least_is_paid.Goals as goal

pub returns-clause-covering : goal.returns-clause-covering
returns-clause-covering g c = λ columns. covering_is_paid (g.C.Columns.problem columns)

pub returns-clause-least : goal.returns-clause-least
returns-clause-least g c = λ columns. least_is_paid (g.C.Columns.problem columns)
