-- Promise: pools of distinct columns, and their order by value.
use Rattle.std.specs.Prelude.{◌≡◌, ◌==◌, ◌&&◌, ◌||◌, ◌<◌, ℕ, nat_eq, nat_le, Bool, false, cond, zero, suc, List, [], ◌∷◌, ◌++◌, length, take, IsPermutation, IsSortedBy}
use Rattle.std.specs.List.{list_any}
use Rattle.std.specs.Cmp.Lexicographic.{pointwise}
use Rattle.std.specs.Ordering.{nat_cmp, int_cmp, then_cmp, on, is_lt}
use Rattle.plan_core.specs.declared.Price.{Price}
use Rattle.cover_core.specs.declared.Column.{Column}
use Rattle.cover_core.specs.FirstLeast.{value}
use Rattle.cover_core.specs.Parts.{column_at}

-- whether two columns have the same class and the same list
abbrev pub is_same : Column → Column → Bool
is_same column other = (other.class == column.class) && pointwise nat_eq other.items column.items

-- whether a column of the same class and list is there
abbrev pub is_known : List Column → Column → Bool
is_known pool column = list_any (is_same column) pool

-- no column has the class and list of one before it
abbrev pub IsDistinct : List Column → Type 0
IsDistinct pool = (k : ℕ) → k < length pool → is_known (take k pool) (column_at pool k) ≡ false

-- a pool takes no column that it has, and none above 200,000
abbrev pub is_refused : List Column → Column → Bool
is_refused pool column = nat_le 200000 (length pool) || is_known pool column

-- the pool after a column is offered to it
abbrev pub pool_after : List Column → Column → List Column
pool_after pool column = cond (is_refused pool column) pool (pool ++ column ∷ [])

-- the numbers of n places from k on
abbrev pub places_from : ℕ → ℕ → List ℕ
places_from zero k = []
places_from (suc n) k = k ∷ places_from n (suc k)

-- whether the column at a place comes before that at another: by value, and then by place
abbrev pub comes_before : List Price → List Column → ℕ → ℕ → Bool
comes_before prices pool = λ i j. is_lt (then_cmp (on (λ k. value prices (column_at pool k)) int_cmp) nat_cmp i j)

-- each place once, in the order of value and place
pub record IsByValue (prices : List Price) (pool : List Column) (places : List ℕ) : Type 0 where
  pub each : IsPermutation (places_from (length pool) 0) places
  pub sorted : IsSortedBy (comes_before prices pool) places
