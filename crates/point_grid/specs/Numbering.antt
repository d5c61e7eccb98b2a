-- Promise: points by dense numbers.
use Rattle.std.specs.Prelude.{◌≡◌, ℕ, List, Some, length, slice_get, slice_index}
use Rattle.plan_core.specs.declared.types.Point.{Point}
use Rattle.point_grid.specs.declared.numbering.Numbering.{Numbering}

-- what was at a place is there still
abbrev pub AreKept : List Point → List Point → Type 0
AreKept old new = (k : ℕ) (point : Point) → slice_get old k ≡ Some point → slice_get new k ≡ Some point

-- for each of the given points a number at which it stands
pub record AreNumbered (given : List Point) (numbering : Numbering) : Type 0 where
  pub count : length numbering.numbers ≡ length given
  pub points : (i : ℕ) (point : Point) → slice_get given i ≡ Some point →
      slice_get numbering.points (slice_index numbering.numbers i) ≡ Some point
