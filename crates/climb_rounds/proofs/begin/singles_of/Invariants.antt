use Rattle.price_rounds.specs.Steps.{AreReady}
use Rattle.climb_rounds.proofs.begin.singles_of.Given as goal

abbrev pub invariant-loop-item : goal.invariant-loop-item
invariant-loop-item g l = AreReady (g.C.Columns.problem l.problem) l.singles
