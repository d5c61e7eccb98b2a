use Rattle.mark_cover.specs.Orders.{AreStepGrouped}
use Rattle.mark_cover.proofs.groups.are_grouped.Given as goal

abbrev pub invariant-loop-place : goal.invariant-loop-place
invariant-loop-place g l = AreStepGrouped (g.M.Marks.marking l.m) l.marks l.place
