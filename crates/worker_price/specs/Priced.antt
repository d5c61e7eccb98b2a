-- Promise: what a pricing step gives: the columns that are kept, and the least value of each class.
use Rattle.std.specs.Prelude.{◌≡◌, ◌<◌, ◌≤◌, neg_ℤ, ◌≤ℤ◌, ◌⊎◌, Some, ℕ, ℤ, pos, ◌+◌, ◌/◌, ◌&&◌, ◌+ℤ◌, int_lt, int_le, Bool, List, [], ◌∷◌, map, length}
use Rattle.std.specs.List.{filter, filter_map, flat_map, range_with_len}
use Rattle.std.specs.Int.{int_min}
use Rattle.plan_core.specs.Limits.{most_items, most_price}
use Rattle.plan_core.specs.declared.Price.{Price}
use Rattle.cover_core.specs.declared.Column.{Column}
use Rattle.cover_core.specs.Cover.{Problem}
use Rattle.cover_core.specs.FirstLeast.{value, IsAtMostAll, AllWithin}
use Rattle.cover_core.specs.Plans.{value_of}
use Rattle.cover_core.specs.Best.{best_of}

-- how many groups of 16 first items there are
abbrev pub groups_of : ℕ → ℕ
groups_of items = (items + 15) / 16

-- the first leasts of the groups of a class, in the order of the groups
abbrev pub first_leasts : Problem → List Price → ℕ → List Column
first_leasts p prices class = filter_map (best_of p prices class) (range_with_len 0 (groups_of p.items))

-- the least of 0 and the values of columns
abbrev pub least_value : List Price → List Column → ℤ
least_value prices [] = pos 0
least_value prices (c ∷ cs) = int_min (value prices c) (least_value prices cs)

-- the least value of a class: the least of 0 and the values of its first leasts
abbrev pub least_of : Problem → List Price → ℕ → ℤ
least_of p prices class = least_value prices (first_leasts p prices class)

-- a column is kept where its value is below 0 and twice its value is at most the least value of its class
abbrev pub is_kept : List Price → ℤ → Column → Bool
is_kept prices least c = int_lt (value prices c) (pos 0) && int_le (value prices c +ℤ value prices c) least

-- those of the columns of a class that are kept
abbrev pub kept_columns : List Price → List Column → List Column
kept_columns prices columns = filter (is_kept prices (least_value prices columns)) columns

-- the kept columns of all classes, in the order of class and group
abbrev pub priced_columns : Problem → List Price → List Column
priced_columns p prices = flat_map (λ class. kept_columns prices (first_leasts p prices class)) (range_with_len 0 (length p.caps))

-- the least values of all classes
abbrev pub priced_least : Problem → List Price → List ℤ
priced_least p prices = map (least_of p prices) (range_with_len 0 (length p.caps))

-- the least of 0 and the values of all lists of the class that have a worth
pub record IsLeastOfLists (p : Problem) (prices : List Price) (class : ℕ) (least : ℤ) : Type 0 where
  pub most : least ≤ℤ pos 0
  pub below : IsAtMostAll p prices class least
  pub reached : (least ≡ pos 0) ⊎ ((list : List ℕ) × (worth : ℕ) × (p.worth class list ≡ Some worth) × (value_of prices worth list ≡ least))

-- the least value of a class is that of all its lists
abbrev pub LeastIsOfLists : Problem → Type 0
LeastIsOfLists p = (prices : List Price) (class : ℕ) → class < length p.caps → IsLeastOfLists p prices class (least_of p prices class)

-- where prices are within 10,000,000,000,000 and there are at most 3,000 of them, no least value is below -30,000,000,000,000,000
abbrev pub LeastIsBounded : Problem → Type 0
LeastIsBounded p =
    (prices : List Price) (class : ℕ) → p.items ≤ most_items → AllWithin most_price prices → class < length p.caps →
    neg_ℤ (pos 30000000000000000) ≤ℤ least_of p prices class
