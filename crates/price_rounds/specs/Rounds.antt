-- Promise: rounds of prices over a problem: which prices are offered, which columns a pool gets, and which offer is kept.
use Rattle.std.specs.Prelude.{◌≡◌, ℕ, ℤ, pos, ◌+◌, ◌<◌, ◌≤◌, zero, suc, List, [], ◌∷◌, ◌++◌, map, length, All}
use Rattle.std.specs.List.{range_with_len}
use Rattle.std.specs.Int.{int_max}
use Rattle.plan_core.specs.declared.Price.{Price}
use Rattle.cover_core.specs.declared.Column.{Column}
use Rattle.cover_core.specs.Cover.{Problem}
use Rattle.cover_core.specs.Plans.{IsPlan, cost}
use Rattle.column_pool.specs.Pools.{pool_after}
use Rattle.cover_master.specs.Method.{starting_prices, step_size_of, turned_prices, lowered_prices}
use Rattle.dual_bound.specs.declared.kept.Kept.{Kept}
use Rattle.dual_bound.specs.Offers.{offer_of}
use Rattle.worker_price.specs.Priced.{priced_columns, priced_least}

-- a pool after columns are added to it one after another
abbrev pub pool_with : List Column → List Column → List Column
pool_with pool [] = pool
pool_with pool (c ∷ cs) = pool_with (pool_after pool c) cs

-- prices after so many price steps of a size over a pool
unfoldable pub turned_often : ℕ → List Column → List ℕ → ℤ → List Price → List Price
turned_often zero pool caps size prices = prices
turned_often (suc n) pool caps size prices = turned_prices pool (turned_often n pool caps size prices) caps size

-- prices after columns lowered them one after another, each at the prices reached by then
abbrev pub lowered_in_order : List Column → List Price → List Price
lowered_in_order [] prices = prices
lowered_in_order (c ∷ cs) prices = lowered_in_order cs (lowered_prices prices c)

-- the greatest price, and at least 0
abbrev pub greatest_of : List Price → ℤ
greatest_of [] = pos 0
greatest_of (x ∷ xs) = int_max x.0 (greatest_of xs)

-- prices and a pool
pub record Standing : Type 0 where
  pub prices : List Price
  pub pool : List Column

-- a price round, counted from 1: what is priced is added to the pool in its order, and then 16 price steps are made
unfoldable pub round_from : Problem → ℕ → Standing → Standing
round_from p round s = record {
  prices = turned_often 16 (pool_with s.pool (priced_columns p s.prices)) p.caps
      (step_size_of (greatest_of (starting_prices p)) round) s.prices;
  pool = pool_with s.pool (priced_columns p s.prices);
}

-- after so many price rounds: from the start prices and an empty pool
unfoldable pub after_rounds : Problem → ℕ → Standing
after_rounds p zero = record { prices = starting_prices p; pool = [] }
after_rounds p (suc n) = round_from p (suc n) (after_rounds p n)

-- the prices after so many price rounds and then so many lowering rounds: what is priced lowers them in its order
unfoldable pub after_lowering : Problem → ℕ → ℕ → List Price
after_lowering p rounds zero = (after_rounds p rounds).prices
after_lowering p rounds (suc n) = lowered_in_order (priced_columns p (after_lowering p rounds n)) (after_lowering p rounds n)

-- prices as they are offered: the class prices are those of the least values under them
abbrev pub offer_at : Problem → List Price → Kept
offer_at p prices = offer_of prices (priced_least p prices) p.caps

-- the offers at the start of each price round
abbrev pub round_offers : Problem → ℕ → List Kept
round_offers p rounds = map (λ n. offer_at p (after_rounds p n).prices) (range_with_len 0 rounds)

-- the offers at the start of so many lowering rounds
abbrev pub lowering_offers : Problem → ℕ → ℕ → List Kept
lowering_offers p rounds lower = map (λ n. offer_at p (after_lowering p rounds n)) (range_with_len 0 lower)

-- all offers: at the start of each price round, at the start of each lowering round, and one after the last of these
abbrev pub all_offers : Problem → ℕ → ℕ → List Kept
all_offers p rounds lower = round_offers p rounds ++ lowering_offers p rounds (lower + 1)

-- the first offer of the greatest bound
pub record IsFirstGreatest (offers : List Kept) (kept : Kept) : Type 0 where
  pub before : List Kept
  pub after : List Kept
  pub all : offers ≡ before ++ kept ∷ after
  pub less : All (λ offer. offer.bound < kept.bound) before
  pub no_more : All (λ offer. offer.bound ≤ kept.bound) after

-- no plan costs less
abbrev pub IsBoundOf : Problem → ℕ → Type 0
IsBoundOf p bound = (columns : List Column) → IsPlan p columns → bound ≤ cost columns
