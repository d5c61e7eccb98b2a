use Rattle.column_weave.specs.Woven.{AreWoven}
use Rattle.column_weave.proofs.weaving.weave.Given as goal

abbrev pub invariant-loop-class : goal.invariant-loop-class
invariant-loop-class g l = AreWoven (g.C.Columns.problem l.problem) l.prices.items l.free l.asked l.woven
