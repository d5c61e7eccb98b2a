use Rattle.column_weave.specs.Woven.{AreWoven}
use Rattle.column_weave.proofs.weaving.weave_class.Given as goal

abbrev pub invariant-loop-group : goal.invariant-loop-group
invariant-loop-group g l = AreWoven (g.C.Columns.problem l.problem) l.prices.items l.free l.fn.asked l.woven
