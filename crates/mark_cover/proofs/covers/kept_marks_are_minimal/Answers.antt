use Rattle.mark_cover.proofs.Minima.{kept-minimal}
use Rattle.mark_cover.proofs.covers.kept_marks_are_minimal.Goals as goal

pub returns : goal.returns
returns g c = λ marks order. kept-minimal (g.M.Marks.marking marks) order (g.met.M.Marks.ordered marks)
