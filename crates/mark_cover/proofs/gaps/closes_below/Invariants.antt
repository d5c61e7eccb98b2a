use Rattle.mark_cover.specs.Searches.{AreHighBelow}
use Rattle.mark_cover.proofs.gaps.closes_below.Given as goal

abbrev pub invariant-loop-place : goal.invariant-loop-place
invariant-loop-place g l = AreHighBelow (g.M.Marks.marking l.m) l.marks l.class_prices l.place
