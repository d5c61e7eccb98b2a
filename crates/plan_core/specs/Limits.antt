-- Promise: the limits within which days are planned, each with its one word.
-- A block lasts at most 345,600 seconds, so that a thousand times its cost is below `most_price`, and sums of prices fit 64 bits.
use Rattle.std.specs.Prelude.{ℕ}

-- a day has at most so many trips; so a plan of it has at most as many blocks, pieces and duties, and a column at most as many items
abbrev pub most_items : ℕ
most_items = 3000

-- no price lies further from 0, in thousandths of a cost unit
abbrev pub most_price : ℕ
most_price = 10000000000000

-- no price that a certificate keeps, of an item or of a class, lies further from 0, in thousandths of a cost unit
abbrev pub most_kept_price : ℕ
most_kept_price = 3000000000000000

-- no column is worth more, in cost units
abbrev pub most_worth : ℕ
most_worth = 4000000000

-- a depot has at most so many vehicles, and a group at most so many drivers
abbrev pub most_places : ℕ
most_places = 10000

-- no rate is higher, in cost units a second
abbrev pub most_rate : ℕ
most_rate = 10000

-- no vehicle and no driver has a higher fixed cost, in cost units
abbrev pub most_fixed_cost : ℕ
most_fixed_cost = 100000000
