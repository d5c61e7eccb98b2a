-- Promise: parts of plans: some columns, in which no item stands twice and no class has more than its cap.
use Rattle.std.specs.Prelude.{ℕ, ◌<◌, ◌≤◌, ◌==◌, nat_lt, Bool, List, [], length, slice_index, slice_index_or}
use Rattle.cover_core.specs.declared.Column.{Column}
use Rattle.cover_core.specs.Cover.{Problem}
use Rattle.cover_core.specs.Plans.{AreColumns, times, all_items, all_classes}

-- whether a class has a place left
abbrev pub has_place : Problem → List Column → ℕ → Bool
has_place p columns class = nat_lt (times class (all_classes columns)) (slice_index p.caps class)

-- whether an item stands in no column
abbrev pub is_free : List Column → ℕ → Bool
is_free columns item = times item (all_items columns) == 0

-- columns of the problem, no item twice, no class above its cap
pub record IsPart (p : Problem) (columns : List Column) : Type 0 where
  pub worths : AreColumns p columns
  pub once : (item : ℕ) → times item (all_items columns) ≤ 1
  pub caps : (class : ℕ) → class < length p.caps → times class (all_classes columns) ≤ slice_index p.caps class

-- the column at a place, and an empty one past the end
abbrev pub no_column : Column
no_column = record { class = 0; worth = 0; items = [] }

abbrev pub column_at : List Column → ℕ → Column
column_at columns place = slice_index_or columns place no_column
