-- Promise: the cost and the driving of a block, trip by trip.
use Rattle.std.specs.Prelude.{ℕ, ℤ, pos, ◌+◌, ◌*◌, ◌+ℤ◌, ◌*ℤ◌, ◌≤ℤ◌, nat_lt, List, [], ◌∷◌, Option, Some, None, option_and_then, is_some, slice_get}
use Rattle.std.specs.Option.{option_map}
use Rattle.plan_core.specs.Limits.{most_rate, most_fixed_cost}
use Rattle.trip_times.specs.declared.trip.Trip.{Trip}
use Rattle.plan_params.specs.declared.rows.pool.Pool.{Pool}
use Rattle.day_model.specs.declared.link.Link.{Link}
use Rattle.day_model.specs.declared.link.Link.TheVariants.{Direct, Depot}
use Rattle.day_model.specs.Facts.{DayFacts, admits}
use Rattle.day_model.specs.Links.{given, link, pull_in, pull_out, with_trip}
use Rattle.day_model.specs.Blocks.{link_cost}
use Rattle.depot_network.specs.declared.step.Step.{Step}
use Rattle.depot_network.specs.Driving.{driven_first, driven_in, driven_on}

-- the fixed cost and the pull-out to a first trip
abbrev pub begun : DayFacts → Pool → ℕ → Option ℕ
begun day pool t =
    with_trip day t (λ trip. given (admits day trip.line pool.typ)
    (option_map (λ out. pool.fixed + pool.dead_rate * out) (pull_out day pool trip)))

-- what a later trip adds to the cost of a block that ends with a trip
abbrev pub added : DayFacts → Pool → ℕ → ℕ → Option ℕ
added day pool t u =
    with_trip day t (λ trip. with_trip day u
    (λ next. given (nat_lt t u)
    (given (admits day next.line pool.typ) (option_map (λ l. link_cost pool next l) (link day pool trip next)))))

-- what the pull-in from a last trip adds
abbrev pub ended : DayFacts → Pool → ℕ → Option ℕ
ended day pool t = with_trip day t (λ trip. option_map (λ inward. pool.dead_rate * inward) (pull_in day pool trip))

-- a cost and a driving, where both are there
abbrev pub joined : Option ℕ → Option ℕ → Option Step
joined cost driving = option_and_then (λ c. option_map (λ d. record { cost = c; driving = d }) driving) cost

-- a first trip
abbrev pub first_step : DayFacts → Pool → ℕ → Option Step
first_step day pool t = joined (begun day pool t) (driven_first day pool t)

-- a later trip, from the driving at the end of the one before it
abbrev pub next_step : DayFacts → Pool → ℕ → ℕ → ℕ → Option Step
next_step day pool driving t u = joined (added day pool t u) (driven_on day pool driving t u)

-- the pull-in
abbrev pub last_step : DayFacts → Pool → ℕ → ℕ → Option ℕ
last_step day pool driving t = given (is_some (driven_in day pool driving t)) (ended day pool t)

-- the cost and the driving of a block so far, a last trip, and the trips after it
abbrev pub stepped : DayFacts → Pool → ℕ → ℕ → ℕ → List ℕ → Option ℕ
stepped day pool cost driving t [] = option_map (λ more. cost + more) (last_step day pool driving t)
stepped day pool cost driving t (u ∷ us) =
    option_and_then (λ step. stepped day pool (cost + step.cost) step.driving u us) (next_step day pool driving t u)

-- the cost of a list of trips that can be driven
abbrev pub steps : DayFacts → Pool → List ℕ → Option ℕ
steps day pool [] = None
steps day pool (t ∷ ts) = option_and_then (λ step. stepped day pool step.cost step.driving t ts) (first_step day pool t)

-- when a trip ends
abbrev end_or : Option Trip → ℤ
end_or None = pos 0
end_or (Some trip) = trip.end.0

abbrev pub end_of : DayFacts → ℕ → ℤ
end_of day t = end_or (slice_get day.trips t)

-- a block up to the end of a trip costs no more than the fixed cost and all seconds so far at the highest rate
pub record IsCheapUntil (day : DayFacts) (t cost : ℕ) : Type 0 where
  pub so_far : pos cost ≤ℤ (pos most_fixed_cost +ℤ (pos most_rate *ℤ end_of day t))
  pub in_time : end_of day t ≤ℤ pos 172800

-- no connection of a pool's vehicles, pull-out with its fixed cost or pull-in costs more
abbrev pub dear_of : Pool → ℕ
dear_of pool = pool.fixed + 345600 * (pool.dead_rate + pool.stand_rate)

-- the seconds of a connection that may cost something
abbrev pub seconds_of : Link → ℕ
seconds_of (Direct move stand) = move + stand
seconds_of (Depot inward outward stand) = inward + outward
