use Rattle.cover_core.proofs.Duality.{weak_duality}
use Rattle.cover_core.proofs.laws.weak_duality.Goals as goal

pub returns : goal.returns
returns g c = λ columns. weak_duality (g.C.Columns.problem columns) (g.met.C.Columns.listed columns)
