use Rattle.std.proofs.Common.{◌≡◌, ◌<◌, ◌≤◌, ℕ, Some, false}
use Rattle.std.specs.Prelude.{slice_get}
use Rattle.mark_cover.specs.Searches.{is_unmet}
use Rattle.mark_cover.proofs.gaps.are_met_by.Given as goal

abbrev pub invariant-loop-place : goal.invariant-loop-place
invariant-loop-place g l =
    let m = g.M.Marks.marking l.m in
    (k : ℕ) (a : g.row.M-Mark.Denot) → l.from ≤ k → k < l.place → slice_get l.marks k ≡ Some a →
    is_unmet m l.marks (m.extend a l.item) ≡ false
