-- Promise: prices that are lowered by columns whose classes ask for a place.
use Rattle.std.specs.Prelude.{◌≡◌, ◌≢◌, ℕ, ℤ, pos, ◌+ℤ◌, int_lt, cond, List, [], ◌∷◌, length}
use Rattle.plan_core.specs.declared.Price.{Price}
use Rattle.cover_core.specs.declared.Column.{Column}
use Rattle.cover_core.specs.Plans.{price_at, number_at}
use Rattle.cover_core.specs.FirstLeast.{value}
use Rattle.cover_core.specs.Parts.{column_at}
use Rattle.column_pool.specs.Pools.{IsByValue}
use Rattle.cover_master.specs.Method.{share_of, lowered_by, prices_from}

-- no column is without items
abbrev pub HaveItems : List Column → Type 0
HaveItems [] = Unit {0}
HaveItems (c ∷ cs) = (c.items ≢ []) × HaveItems cs

-- the value of a column, and what its class asks for a place
abbrev pub value_with : List Price → Column → ℤ → ℤ
value_with prices c asked = value prices c +ℤ asked

-- the price of an item after a column whose class asks so much: where value and asked price together are below 0, each item of the
-- column bears its share of that
abbrev pub lowered_price : List Price → Column → ℤ → ℕ → ℤ
lowered_price prices c asked item =
    cond (int_lt (value_with prices c asked) (pos 0))
    (lowered_by c.items (pos (share_of (value_with prices c asked) (length c.items))) prices item) (price_at prices item)

-- all prices after a column whose class asks so much
abbrev pub lowered_prices : List Price → Column → ℤ → List Price
lowered_prices prices c asked = prices_from (length prices) 0 (lowered_price prices c asked)

-- all prices after the columns at these places of a pool, one after another, each at the prices reached by then
abbrev pub lowered_along : List Column → List ℤ → List ℕ → List Price → List Price
lowered_along pool asked [] prices = prices
lowered_along pool asked (k ∷ ks) prices =
    lowered_along pool asked ks (lowered_prices prices (column_at pool k) (number_at asked (column_at pool k).class))

-- new prices are the old ones lowered by all columns of a pool, in the order of value and place at the old prices
pub record IsLowered (pool : List Column) (asked : List ℤ) (old new : List Price) : Type 0 where
  pub places : List ℕ
  pub by_value : IsByValue old pool places
  pub is : new ≡ lowered_along pool asked places old
