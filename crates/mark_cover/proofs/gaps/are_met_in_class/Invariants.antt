use Rattle.std.proofs.Common.{◌<◌, ℕ}
use Rattle.mark_cover.specs.Searches.{AreMetBy}
use Rattle.mark_cover.proofs.gaps.are_met_in_class.Given as goal

abbrev pub invariant-loop-item : goal.invariant-loop-item
invariant-loop-item g l = (j : ℕ) → j < l.item → AreMetBy (g.M.Marks.marking l.m) l.marks l.class j
