use Rattle.std.proofs.Common.{◌≡◌, ℕ, ◌<◌, false}
use Rattle.mark_cover.specs.Searches.{is_unmet}
use Rattle.mark_cover.proofs.gaps.mark_gap.Given as goal

abbrev pub invariant-loop-item : goal.invariant-loop-item
invariant-loop-item g l =
    let m = g.M.Marks.marking l.m in
    (k : ℕ) → k < l.item → is_unmet m l.marks (m.extend l.mark k) ≡ false
