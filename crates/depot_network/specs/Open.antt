-- Promise: open blocks: lists of trips that may still go on. Their labels have the last trip, the driving at its end, and the value so far.
use Rattle.std.specs.Prelude.{ℕ, ℤ, pos, neg_ℤ, ◌+ℤ◌, ◌-ℤ◌, ◌≤ℤ◌, int_le, ◌+◌, ◌*◌, ◌<◌, ◌≤◌, Bool, cond, ◌&&◌, nat_eq, nat_le, List, Option}
use Rattle.std.specs.Option.{option_map}
use Rattle.plan_core.specs.declared.Price.{Price}
use Rattle.cover_core.specs.Plans.{price_at}
use Rattle.cover_core.specs.Labels.{Labelling}
use Rattle.plan_params.specs.declared.rows.pool.Pool.{Pool}
use Rattle.day_model.specs.Facts.{DayFacts}
use Rattle.day_model.specs.Pieces.{longest_driving}
use Rattle.depot_network.specs.declared.open.OpenBlock.{OpenBlock}
use Rattle.depot_network.specs.declared.step.Step.{Step}
use Rattle.depot_network.specs.Walk.{first_step, last_step, next_step}

-- what a cost adds to a value: a thousand times it, or nothing where blocks are counted
abbrev pub scaled : Bool → ℕ → ℤ
scaled counts cost = cond counts (pos 0) (pos (1000 * cost))

-- the same at a first trip: where blocks are counted a block is worth 1
abbrev pub first_scaled : Bool → ℕ → ℤ
first_scaled counts cost = cond counts (pos 1000) (pos (1000 * cost))

-- the open block of a first trip
abbrev pub begun_open : Bool → List Price → ℕ → Step → OpenBlock
begun_open counts prices t step = record { trip = t; driving = step.driving; value = first_scaled counts step.cost -ℤ price_at prices t }

-- an open block with a trip more
abbrev pub next_open : Bool → List Price → OpenBlock → ℕ → Step → OpenBlock
next_open counts prices a u step =
    record { trip = u; driving = step.driving; value = a.value +ℤ scaled counts step.cost -ℤ price_at prices u }

abbrev pub first_open : DayFacts → Bool → List Price → Pool → ℕ → Option OpenBlock
first_open day counts prices pool t = option_map (begun_open counts prices t) (first_step day pool t)

abbrev pub extended_open : DayFacts → Bool → List Price → Pool → OpenBlock → ℕ → Option OpenBlock
extended_open day counts prices pool a u = option_map (next_open counts prices a u) (next_step day pool a.driving a.trip u)

abbrev pub opening : DayFacts → Bool → List Price → Pool → Labelling OpenBlock
opening day counts prices pool = record { start = first_open day counts prices pool; extend = extended_open day counts prices pool }

-- the value of an open block that is driven in
abbrev pub closed_open : DayFacts → Bool → Pool → OpenBlock → Option ℤ
closed_open day counts pool a = option_map (λ cost. a.value +ℤ scaled counts cost) (last_step day pool a.driving a.trip)

-- what the second block may do the first may too, for no more: its trip is the same, its driving and its value are not greater
abbrev pub is_as_good : OpenBlock → OpenBlock → Bool
is_as_good a b = nat_eq a.trip b.trip && (nat_le a.driving b.driving && int_le a.value b.value)

-- the trip is one of so many, and the value is at most 20,000,000,000,000 for each trip so far, above or below 0
pub record OpenFits (count : ℕ) (a : OpenBlock) : Type 0 where
  pub trip : a.trip < count
  pub driving : a.driving ≤ longest_driving
  pub low : neg_ℤ (pos (20000000000000 * (a.trip + 1))) ≤ℤ a.value
  pub high : a.value ≤ℤ pos (20000000000000 * (a.trip + 1))
