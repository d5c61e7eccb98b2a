use Rattle.std.proofs.Common.{◌≡◌, ℕ, ◌<◌, false}
use Rattle.mark_cover.specs.Searches.{is_unmet}
use Rattle.mark_cover.proofs.gaps.start_gap.Given as goal

abbrev pub invariant-loop-class : goal.invariant-loop-class
invariant-loop-class g l =
    let m = g.M.Marks.marking l.m in
    (k j : ℕ) → k < l.class → j < m.items → is_unmet m l.marks (m.start k j) ≡ false
