-- Promise: what rounding gives: a plan, or an item that has no place.
use Rattle.std.specs.Prelude.{◌≡◌, ℕ, ◌<◌, ◌≤◌, false, List, [], ◌∷◌, length, slice_index, Some, None}
use Rattle.cover_core.specs.declared.Column.{Column}
use Rattle.cover_core.specs.Cover.{Problem}
use Rattle.cover_core.specs.Plans.{AreColumns, IsPlan, times, all_items}
use Rattle.cover_core.specs.Parts.{IsPart, has_place, column_at}
use Rattle.plan_round.specs.Rounding.{Rounded, whole, left, rounded, put_in}

-- a part of a plan, and an item that it lacks and that has no place:
-- each class in which the item alone has a worth is full, and no column takes the item
pub record IsStuck (p : Problem) (item : ℕ) (columns : List Column) : Type 0 where
  pub there : item < p.items
  pub part : IsPart p columns
  pub lacks : times item (all_items columns) ≡ 0
  pub full : (class worth : ℕ) → class < length p.caps → p.worth class (item ∷ []) ≡ Some worth → has_place p columns class ≡ false
  pub none_takes : (place : ℕ) → place < length columns →
      p.worth (column_at columns place).class (put_in item (column_at columns place).items) ≡ None

-- a plan, or a part of one that has no place for the item that is left
abbrev pub IsRounding : Problem → Rounded → Type 0
IsRounding p (whole columns) = IsPlan p columns
IsRounding p (left item columns) = IsStuck p item columns

-- columns of the problem, gone through in any order, are rounded to a plan, or to a part and an item without a place
abbrev pub RoundsToPlan : Problem → Type 0
RoundsToPlan p = (ordered : List Column) → AreColumns p ordered → IsRounding p (rounded p ordered)

-- a class in which the item alone has a worth, and which has as many places as there are items
pub record HasOwnRoom (p : Problem) (item : ℕ) : Type 0 where
  pub class : ℕ
  pub worth : ℕ
  pub there : class < length p.caps
  pub alone : p.worth class (item ∷ []) ≡ Some worth
  pub wide : p.items ≤ slice_index p.caps class

-- each item alone has a worth in such a class
abbrev pub HasRoomForEach : Problem → Type 0
HasRoomForEach p = (item : ℕ) → item < p.items → HasOwnRoom p item

-- where each item has room of its own none is left
abbrev pub LeavesNone : Problem → Type 0
LeavesNone p = HasRoomForEach p → (ordered : List Column) → AreColumns p ordered → (item : ℕ) (columns : List Column) →
    rounded p ordered ≡ left item columns → ⊥
