-- Promise: times between points, laid out flat.
use Rattle.std.specs.Prelude.{◌≡◌, ℕ, ◌+◌, ◌*◌, nat_le, List, Option, Some, None, length, map, slice_get, if◌then◌else◌}
use Rattle.std.specs.List.{flat_map}
use Rattle.plan_core.specs.declared.types.Point.{Point}
use Rattle.point_grid.specs.declared.grid.Grid.{Grid}

-- what a cell tells: a number above all times tells of none
abbrev pub told : ℕ → Option ℕ
told seconds = if nat_le seconds 172800 then Some seconds else None

-- the times from each of these points to each of those, row by row
abbrev pub times_of : (Point → Point → Option ℕ) → List Point → List Point → List (Option ℕ)
times_of time rows columns = flat_map (λ (from : Point). map (λ (to : Point). time from to) columns) rows

-- the cells of a grid tell these times
pub record IsGrid (time : Point → Point → Option ℕ) (rows columns : List Point) (grid : Grid) : Type 0 where
  pub width : grid.columns ≡ length columns
  pub cells : map told grid.cells ≡ times_of time rows columns

-- the cell of a row and a column tells this time
abbrev pub IsCell : Grid → ℕ → ℕ → Option ℕ → Type 0
IsCell grid row column time = slice_get (map told grid.cells) (row * grid.columns + column) ≡ Some time
