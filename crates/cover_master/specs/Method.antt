-- Promise: Prices: where they start, how a price step moves them, and how a column lowers them.
use Rattle.std.specs.Prelude.{ℕ, ℤ, pos, neg_ℤ, ◌+ℤ◌, ◌-ℤ◌, ◌*ℤ◌, int_lt, int_div, unsigned_abs, ◌+◌, ◌-◌, ◌*◌, ◌/◌, min, Bool, cond, ◌&&◌, ◌==◌, nat_lt, zero, suc, List, [], ◌∷◌, length, Option, Some, None, unwrap_or, slice_index}
use Rattle.std.specs.List.{sum_by, count_by}
use Rattle.std.specs.Ordering.{is_lt}
use Rattle.plan_core.specs.Limits.{most_price}
use Rattle.plan_core.specs.declared.Price.{Price}
use Rattle.cover_core.specs.declared.Column.{Column}
use Rattle.cover_core.specs.Cover.{Problem}
use Rattle.cover_core.specs.Plans.{price_at, times}
use Rattle.cover_core.specs.FirstLeast.{value}
use Rattle.cover_core.specs.Parts.{column_at}
use Rattle.cover_core.specs.declared.column_keys.ColumnKey.{ColumnKey}
use Rattle.cover_core.specs.ColumnKeys.{place_cmp}

-- the smaller of two worths, where there are any
abbrev pub least_of : Option ℕ → Option ℕ → Option ℕ
least_of None o = o
least_of (Some a) None = Some a
least_of (Some a) (Some b) = Some (min a b)

-- the least worth of a list over the classes below k
abbrev pub least_worth : Problem → ℕ → List ℕ → Option ℕ
least_worth p zero list = None
least_worth p (suc k) list = least_of (least_worth p k list) (p.worth k list)

-- an item's start price: a thousand times the least worth of the item alone, or 0
abbrev pub start_price : Problem → ℕ → ℤ
start_price p item = pos (1000 * unwrap_or (least_worth p (length p.caps) (item ∷ [])) 0)

-- a price kept from -10,000,000,000,000 to 10,000,000,000,000
abbrev pub clamped : ℤ → ℤ
clamped z =
    cond (int_lt (pos most_price) z) (pos most_price) (cond (int_lt z (neg_ℤ (pos most_price))) (neg_ℤ (pos most_price)) z)

-- the size of the price steps of a round: the greatest start price divided by one more than the round, rounded down, and at least 1
abbrev pub step_size_of : ℤ → ℕ → ℤ
step_size_of greatest round = let part = int_div greatest (pos (round + 1)) in cond (int_lt part (pos 1)) (pos 1) part

-- the columns of a pool by class, value and place
abbrev pub keys_from : List Price → ℕ → List Column → List ColumnKey
keys_from prices place [] = []
keys_from prices place (c ∷ cs) = record { class = c.class; value = value prices c; place = place } ∷ keys_from prices (suc place) cs

abbrev pub keys_of : List Price → List Column → List ColumnKey
keys_of prices pool = keys_from prices 0 pool

-- whether another column of the class comes before this one
abbrev pub comes_before : ColumnKey → ColumnKey → Bool
comes_before key other = (other.class == key.class) && is_lt (place_cmp other key)

-- how many columns of its class come before a column
abbrev pub rank : List ColumnKey → ColumnKey → ℕ
rank keys key = count_by (comes_before key) keys

-- chosen: the first cap columns of a class by value and place, those of value below 0
abbrev pub is_chosen : List ColumnKey → List ℕ → ColumnKey → Bool
is_chosen keys caps key = int_lt key.value (pos 0) && nat_lt (rank keys key) (slice_index caps key.class)

-- how often a column, where it is chosen, has the item
abbrev pub chosen_times : List Column → List ColumnKey → List ℕ → ℕ → ColumnKey → ℕ
chosen_times pool keys caps item key = cond (is_chosen keys caps key) (times item (column_at pool key.place).items) 0

-- how often an item stands in chosen columns
abbrev pub times_chosen : List Column → List Price → List ℕ → ℕ → ℕ
times_chosen pool prices caps item = sum_by (chosen_times pool (keys_of prices pool) caps item) (keys_of prices pool)

-- the price of an item that so many chosen columns have: it rises by the size where none has it, and falls where more than one has
abbrev pub moved_price : List Price → ℤ → List ℕ → ℕ → ℤ
moved_price prices size cover item = clamped (price_at prices item +ℤ (size *ℤ (pos 1 -ℤ pos (slice_index cover item))))

-- the price of an item after a price step
abbrev pub turned_price : List Column → List Price → List ℕ → ℤ → ℕ → ℤ
turned_price pool prices caps size item =
    clamped (price_at prices item +ℤ (size *ℤ (pos 1 -ℤ pos (times_chosen pool prices caps item))))

-- the prices of the n items from k on, by a rule
abbrev pub prices_from : ℕ → ℕ → (ℕ → ℤ) → List Price
prices_from zero k rule = []
prices_from (suc n) k rule = record { 0 = rule k } ∷ prices_from n (suc k) rule

-- where prices start
abbrev pub starting_prices : Problem → List Price
starting_prices p = prices_from p.items 0 (start_price p)

-- all prices after a price step
abbrev pub turned_prices : List Column → List Price → List ℕ → ℤ → List Price
turned_prices pool prices caps size = prices_from (length prices) 0 (turned_price pool prices caps size)

-- an item's share of the loss of a column: the loss divided by the number of its items, rounded up
abbrev pub share_of : ℤ → ℕ → ℕ
share_of value count = (unsigned_abs value + (count - 1)) / count

-- the price of an item after each item of a list was lowered by a share
abbrev pub lowered_by : List ℕ → ℤ → List Price → ℕ → ℤ
lowered_by items share prices item = cond (nat_lt 0 (times item items)) (clamped (price_at prices item -ℤ share)) (price_at prices item)

-- the price of an item after a column: where the column's value is below 0, each of its items bears its share of it
abbrev pub lowered_price : List Price → Column → ℕ → ℤ
lowered_price prices c item =
    cond (int_lt (value prices c) (pos 0)) (lowered_by c.items (pos (share_of (value prices c) (length c.items))) prices item)
    (price_at prices item)

-- all prices after a column
abbrev pub lowered_prices : List Price → Column → List Price
lowered_prices prices c = prices_from (length prices) 0 (lowered_price prices c)
