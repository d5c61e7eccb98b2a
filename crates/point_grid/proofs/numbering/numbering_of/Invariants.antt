use Rattle.std.proofs.Common.{◌≡◌, ℕ, ◌<◌, ◌≤◌, Some, length, slice_get, slice_index}
use Rattle.plan_core.specs.declared.types.Point.{Point}
use Rattle.point_grid.proofs.numbering.numbering_of.Given as goal

-- the points that are passed stand at their numbers
abbrev pub invariant-loop-point : goal.invariant-loop-point
invariant-loop-point l = record {
  few : length l.points ≤ l.point-index;
  count : length l.numbers ≡ l.point-index;
  so_far : (i : ℕ) (point : Point) → i < l.point-index → slice_get l.given i ≡ Some point →
      slice_get l.points (slice_index l.numbers i) ≡ Some point;
}
