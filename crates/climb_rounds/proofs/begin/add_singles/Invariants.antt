use Rattle.plan_dive.specs.Grounds.{IsStock}
use Rattle.climb_rounds.proofs.begin.add_singles.Given as goal

abbrev pub invariant-loop-class : goal.invariant-loop-class
invariant-loop-class g l = IsStock (g.C.Columns.problem l.problem) l.stock
