use Rattle.column_weave.specs.Nearest.{AreNearest}
use Rattle.column_weave.proofs.nearest.three_nearest.Given as goal

abbrev pub invariant-loop-item : goal.invariant-loop-item
invariant-loop-item g l = AreNearest l.from (g.C.Columns.problem l.problem).items l.nearest
