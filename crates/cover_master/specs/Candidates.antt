-- Inner: which columns a price step need look at: of each class those up to a limit, so that no chosen one is left out.
use Rattle.std.specs.Prelude.{◌≡◌, ◌==◌, ◌&&◌, ◌⊎◌, ℕ, ℤ, negsuc, int_le, ◌<◌, ◌≤◌, Bool, cond, List, [], ◌∷◌, length, filter, slice_index}
use Rattle.std.specs.List.{count_by}
use Rattle.std.specs.List.Sorted.{IsPermutation}
use Rattle.plan_core.specs.declared.Price.{Price}
use Rattle.cover_core.specs.declared.Column.{Column}
use Rattle.cover_core.specs.Plans.{number_at}
use Rattle.cover_core.specs.declared.column_keys.ColumnKey.{ColumnKey}
use Rattle.cover_master.specs.Method.{keys_of}
use Rattle.cover_master.specs.Fitting.{is_gain}

-- whether a column's value is at most the limit of its class
abbrev pub is_candidate : List ℤ → ColumnKey → Bool
is_candidate limits = λ key. int_le key.value (number_at limits key.class)

-- whether a column is of a class, and its value at most a limit
abbrev pub is_at_most : ℕ → ℤ → ColumnKey → Bool
is_at_most class limit = λ key. (key.class == class) && int_le key.value limit

-- a limit of a class leaves out no column of value below 0, or keeps as many columns as the cap
abbrev pub IsLimit : List ColumnKey → ℕ → ℕ → ℤ → Type 0
IsLimit keys class cap limit = (limit ≡ negsuc 0) ⊎ (cap ≤ count_by (is_at_most class limit) keys)

-- one limit for each class
abbrev pub AreLimits : List ColumnKey → List ℕ → List ℤ → Type 0
AreLimits keys caps limits =
    (length limits ≡ length caps)
    × ((class : ℕ) → class < length caps → IsLimit keys class (slice_index caps class) (number_at limits class))

-- the columns of value below 0
abbrev pub gain_keys : List Price → List Column → List ColumnKey
gain_keys prices pool = filter is_gain (keys_of prices pool)

-- the columns of value below 0 up to the limits of their classes, in some order
pub record AreCandidates (prices : List Price) (pool : List Column) (caps : List ℕ) (keys : List ColumnKey) : Type 0 where
  pub limits : List ℤ
  pub are : AreLimits (gain_keys prices pool) caps limits
  pub all : IsPermutation (filter (is_candidate limits) (gain_keys prices pool)) keys

-- the values of the columns of a class
abbrev pub class_values : ℕ → List ColumnKey → List ℤ
class_values class [] = []
class_values class (k ∷ ks) = cond (k.class == class) (k.value ∷ class_values class ks) (class_values class ks)
