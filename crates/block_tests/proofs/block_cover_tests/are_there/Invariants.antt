use Rattle.std.proofs.Common.{◌≡◌, ◌<◌, ℕ, length}
use Rattle.std.specs.Prelude.{Some, slice_get}
use Rattle.cover_core.specs.declared.marks.BlockMark.{BlockMark}
use Rattle.block_tests.proofs.block_cover_tests.are_there.Given as goal

abbrev pub invariant-loop-place : goal.invariant-loop-place
invariant-loop-place l = (k : ℕ) (a : BlockMark) → k < l.place → slice_get l.marks k ≡ Some a →
    (a.class < length l.net.day.params.pools) × (a.trip < length l.net.day.trips)
