-- Promise: the legs of blocks that have a worth.
use Rattle.std.specs.Prelude.{ℕ, ℤ, pos, ◌+ℤ◌, ◌≤ℤ◌, false, List, [], ◌∷◌, ◌++◌, Option, Some, None, option_and_then, slice_get, is_some, unwrap_or, IsTrue}
use Rattle.plan_core.specs.declared.types.Leg.{Leg}
use Rattle.plan_core.specs.declared.types.LegKind.TheVariants.{PullIn}
use Rattle.cover_core.specs.declared.Column.{Column}
use Rattle.trip_times.specs.declared.trip.Trip.{Trip as TheTrip}
use Rattle.plan_params.specs.declared.rows.pool.Pool.{Pool}
use Rattle.day_model.specs.Blocks.{block_worth}
use Rattle.day_model.specs.Facts.{DayFacts}
use Rattle.day_model.specs.Links.{link, pull_in, with_pool, with_trip}
use Rattle.day_model.specs.Pieces.{leg, legs_from, legs_of, link_legs, trip_leg}

-- a column is a block of its pool: its list of trips has a worth
abbrev pub HasWorth : DayFacts → Column → Type 0
HasWorth day column = IsTrue (is_some (block_worth day false column.class column.items))

abbrev pub legs_or : Option (List Leg) → List Leg
legs_or o = unwrap_or o []

-- the legs of a block in time order
abbrev pub block_legs : DayFacts → Column → List Leg
block_legs day column = legs_or (with_pool day column.class (λ pool. legs_of day pool column.items))

-- the legs from a trip of this number on
abbrev pub legs_at : DayFacts → Pool → ℕ → List ℕ → Option (List Leg)
legs_at day pool t rest = with_trip day t (λ trip. legs_from day pool t trip rest)

-- a trip, and what the vehicle does until the next one begins
abbrev pub until_next : DayFacts → Pool → ℕ → ℕ → Option (List Leg)
until_next day pool t u =
    with_trip day t (λ trip. with_trip day u
    (λ next. option_and_then (λ l. Some (trip_leg t trip ∷ link_legs pool trip next l)) (link day pool trip next)))

-- a last trip and the pull-in
abbrev pub until_end : DayFacts → Pool → ℕ → Option (List Leg)
until_end day pool t =
    with_trip day t (λ trip. option_and_then
    (λ inward. Some (trip_leg t trip ∷ leg PullIn None trip.to trip.end.0 pool.depot (trip.end.0 +ℤ pos inward) ∷ []))
    (pull_in day pool trip))

-- when a trip begins
abbrev begin_or : Option TheTrip → ℤ
begin_or None = pos 0
begin_or (Some trip) = trip.begin.0

abbrev pub begin_of : DayFacts → ℕ → ℤ
begin_of day t = begin_or (slice_get day.trips t)

-- Legs between two moments: each begins no earlier than the one before it ends, and ends no earlier than it begins.
abbrev pub AreTimed : ℤ → ℤ → List Leg → Type 0
AreTimed from to [] = from ≤ℤ to
AreTimed from to (l ∷ ls) = (from ≤ℤ l.begin.0) × (l.begin.0 ≤ℤ l.end.0) × AreTimed l.end.0 to ls
