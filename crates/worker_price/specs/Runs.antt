-- Promise: what workers gather in a run of the board's machine, whatever the order of their steps.
use Rattle.std.specs.Prelude.{◌≡◌, ℕ, ℤ, negsuc, ◌+◌, ◌*◌, ◌/◌, ◌<◌, ◌⊎◌, nat_lt, cond, List, length, Option, None, Contains}
use Rattle.std.specs.List.{filter_map, flat_map, range_with_len}
use mathlib.Core.Option.{some}
use lib.ListN.{get_elem?}
use Rattle.plan_core.specs.declared.Price.{Price}
use Rattle.cover_core.specs.declared.Column.{Column}
use Rattle.cover_core.specs.Cover.{Problem}
use Rattle.cover_core.specs.FirstLeast.{value}
use Rattle.cover_core.specs.Best.{best_of, within}
use Rattle.task_board.specs.declared.sheet.Sheet.{Sheet}
use Rattle.task_board.specs.Sheets.{whole, times, extent}
use Rattle.task_board.specs.declared.sheet.Extent.{Extent}
use Rattle.task_board.specs.Machine.{Event, run, start}
use Rattle.worker_price.specs.Priced.{groups_of, kept_columns, least_value, least_of, priced_columns}
use Rattle.worker_price.specs.Work.{limit_of}

-- the board of a problem
abbrev pub extent_for : Problem → Extent
extent_for p = extent (length p.caps * groups_of p.items) (length p.caps)

-- -1, or the smaller of -1 and half of a value that was looked at for the class
abbrev pub IsLimit : List (ℕ × ℤ) → ℕ → ℤ → Type 0
IsLimit looks class limit = (limit ≡ negsuc 0) ⊎ ((seen : ℤ) × Contains looks (class, seen) × (limit ≡ limit_of seen))

-- the column that the task of a class and group gathered: its first least where the task was drawn and the value is within its limit
abbrev pub gathered : Problem → List Price → (ℕ → ℤ) → List ℕ → ℕ → ℕ → Option Column
gathered p prices limits drawn class group =
    cond (nat_lt 0 (times (class * groups_of p.items + group) drawn))
    (within (limits (class * groups_of p.items + group)) prices (best_of p prices class group)) None

-- the gathered columns of a class, in the order of the groups
abbrev pub gathered_columns : Problem → List Price → (ℕ → ℤ) → List ℕ → ℕ → List Column
gathered_columns p prices limits drawn class = filter_map (gathered p prices limits drawn class) (range_with_len 0 (groups_of p.items))

-- those of all classes that are kept, by the least gathered value of their class, in the order of class and group
abbrev pub kept_of_gathered : Problem → List Price → (ℕ → ℤ) → List ℕ → List Column
kept_of_gathered p prices limits drawn =
    flat_map (λ class. kept_columns prices (gathered_columns p prices limits drawn class)) (range_with_len 0 (length p.caps))

-- each drawn task was priced under a limit, and each value by which a class was lowered is that of a gathered column of the class
pub record IsPricing (p : Problem) (prices : List Price) (limits : ℕ → ℤ) (v : Sheet) : Type 0 where
  pub limited : (task : ℕ) → Contains v.drawn task → IsLimit v.looks (task / groups_of p.items) (limits task)
  pub lowered : (class : ℕ) (x : ℤ) → Contains v.lowered (class, x) →
      (c : Column) × Contains (gathered_columns p prices limits v.drawn class) c × (value prices c ≡ x)

-- a run from the first state at whose end this desk has the whole share, and some claim found no task left
pub record EndsAs (p : Problem) (events : List Event) (v : Sheet) : Type 0 where
  pub small : length p.caps * groups_of p.items < 4294967296
  pub desk : (desk : ℕ) × (get_elem? (run (extent_for p) events (start (extent_for p))).views desk ≡ some v)
  pub share : v.share ≡ whole
  pub ended : 0 < v.over

-- what is kept of the gathered columns at the end of a run is what is priced
abbrev pub KeepsPriced : Problem → Type 0
KeepsPriced p =
    (prices : List Price) (limits : ℕ → ℤ) (events : List Event) (v : Sheet) → EndsAs p events v → IsPricing p prices limits v →
    kept_of_gathered p prices limits v.drawn ≡ priced_columns p prices

-- and the least gathered value of a class, or 0 where none is below 0, is its least value
abbrev pub GathersLeast : Problem → Type 0
GathersLeast p =
    (prices : List Price) (limits : ℕ → ℤ) (events : List Event) (v : Sheet) → EndsAs p events v → IsPricing p prices limits v →
    (class : ℕ) → class < length p.caps → least_value prices (gathered_columns p prices limits v.drawn class) ≡ least_of p prices class
