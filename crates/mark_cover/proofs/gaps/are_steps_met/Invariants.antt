use Rattle.std.proofs.Common.{◌<◌, ℕ}
use Rattle.mark_cover.specs.Searches.{AreMetBy}
use Rattle.mark_cover.proofs.gaps.are_steps_met.Given as goal

abbrev pub invariant-loop-class : goal.invariant-loop-class
invariant-loop-class g l =
    let m = g.M.Marks.marking l.m in
    (k j : ℕ) → k < l.class → j < m.items → AreMetBy m l.marks k j
