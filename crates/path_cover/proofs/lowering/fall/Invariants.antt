use Rattle.std.proofs.Common.{◌≡◌, ◌+◌, ◌<◌, ◌≤◌, ℕ, cond, false, length, slice_index}
use Rattle.std.specs.Prelude.{slice_index_or}
use Rattle.path_cover.proofs.lowering.fall.Given as goal

abbrev pub invariant-loop-i : goal.invariant-loop-i
invariant-loop-i l = (length l.falls.items ≡ length l.fn.falls.items)
    × ((k : ℕ) → k < l.i → slice_index l.falls.items k ≡ slice_index l.fn.falls.items k + cond (slice_index_or l.seen k false) l.by 0)
    × ((k : ℕ) → l.i ≤ k → slice_index l.falls.items k ≡ slice_index l.fn.falls.items k)
