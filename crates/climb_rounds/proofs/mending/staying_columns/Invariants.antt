use Rattle.price_rounds.specs.Steps.{AreReady}
use Rattle.climb_rounds.proofs.mending.staying_columns.Given as goal

abbrev pub invariant-loop-place : goal.invariant-loop-place
invariant-loop-place g l = AreReady (g.C.Columns.problem l.problem) l.staying
