-- Inner: going on from a trip, point by point: what going on with one of the trips that begin there adds at least.
use Rattle.std.specs.Prelude.{◌≡◌, ℕ, ℤ, pos, ◌+◌, ◌*◌, ◌<◌, ◌+ℤ◌, ◌-ℤ◌, ◌≤ℤ◌, Bool, cond, List, Option, Some, None, ◌⊎◌, slice_get, slice_index}
use Rattle.std.specs.Int.RustNames.{unsigned_abs}
use Rattle.plan_core.specs.declared.Price.{Price}
use Rattle.cover_core.specs.Plans.{number_at, price_at}
use Rattle.vdv452_tables.specs.Keys.{point_eq}
use Rattle.trip_times.specs.declared.trip.Trip.{Trip}
use Rattle.plan_params.specs.declared.rows.pool.Pool.{Pool}
use Rattle.day_model.specs.Facts.{DayFacts, dead}
use Rattle.depot_network.specs.Open.{scaled}
use Rattle.depot_network.specs.Walk.{added}

-- the seconds driven to the depot and from there, where both are there
abbrev pub by_depot : Option ℕ → Option ℕ → Option ℕ
by_depot None outward = None
by_depot (Some inward) None = None
by_depot (Some inward) (Some outward) = Some (inward + outward)

-- what standing a second costs where a trip begins: nothing at the depot
abbrev pub stand_rate_at : Pool → Trip → ℕ
stand_rate_at pool trip = cond (point_eq trip.from pool.depot) 0 pool.stand_rate

-- what standing from midnight to the start of a trip would cost there
abbrev pub stood_until : Bool → Pool → Option Trip → ℤ
stood_until counts pool None = pos 0
stood_until counts pool (Some trip) = scaled counts (stand_rate_at pool trip * unsigned_abs trip.begin.0)

-- what a trip and its rest add behind a connection
abbrev pub passed_value : List Price → List ℤ → ℕ → ℤ
passed_value prices rests u = number_at rests u -ℤ price_at prices u

-- the same with standing from midnight on
abbrev pub stood_value : DayFacts → Bool → List Price → Pool → List ℤ → ℕ → ℤ
stood_value day counts prices pool rests u = passed_value prices rests u +ℤ stood_until counts pool (slice_get day.trips u)

-- no direct way from a trip to a later one of a point that begins late enough adds less than a number
abbrev pub DirectAbove : DayFacts → Bool → Pool → List ℕ → (ℕ → ℤ) → ℕ → ℕ → ℤ → Type 0
DirectAbove day counts pool numbers value t number least =
    (u : ℕ) (trip next : Trip) (move time : ℕ) → t < u → slice_get day.trips t ≡ Some trip → slice_get day.trips u ≡ Some next →
    slice_index numbers u ≡ number →
    dead day trip.to next.from ≡ Some move → pos time ≡ trip.end.0 +ℤ pos move → (pos (time + day.params.settings.turn)) ≤ℤ next.begin.0 →
    least ≤ℤ (scaled counts (pool.dead_rate * move) -ℤ scaled counts (stand_rate_at pool next * time) +ℤ value u)

-- nor does a way via the depot
abbrev pub DepotAbove : DayFacts → Bool → Pool → List ℕ → (ℕ → ℤ) → ℕ → ℕ → ℤ → Type 0
DepotAbove day counts pool numbers value t number least =
    (u : ℕ) (trip next : Trip) (inward outward : ℕ) → t < u → slice_get day.trips t ≡ Some trip → slice_get day.trips u ≡ Some next →
    slice_index numbers u ≡ number →
    dead day trip.to pool.depot ≡ Some inward → dead day pool.depot next.from ≡ Some outward →
    (trip.end.0 +ℤ pos (inward + outward)) ≤ℤ next.begin.0 →
    least ≤ℤ (scaled counts (pool.dead_rate * (inward + outward)) +ℤ value u)

-- What is known of a trip has one of the points in it: no way to a trip that begins there adds less, or no such trip that begins when it
-- has ended or later and its rest do by themselves.
abbrev pub PointAbove : DayFacts → Bool → Pool → List ℕ → (ℕ → ℤ) → (ℕ → ℤ) → ℕ → ℕ → ℤ → Type 0
PointAbove day counts pool numbers stood passed t number least =
    (DirectAbove day counts pool numbers stood t number least × DepotAbove day counts pool numbers passed t number least) ⊎
    ((u : ℕ) (trip next : Trip) → t < u → slice_get day.trips t ≡ Some trip → slice_get day.trips u ≡ Some next →
    trip.end.0 ≤ℤ next.begin.0 →
    slice_index numbers u ≡ number → least ≤ℤ passed u)

-- no connection from a trip to one of the points before an end adds less, with the rest behind that
abbrev pub PointsAbove : DayFacts → Bool → List Price → Pool → List ℤ → List ℕ → ℕ → ℕ → ℤ → Type 0
PointsAbove day counts prices pool rests numbers t end least =
    (u cost : ℕ) → slice_index numbers u < end → added day pool t u ≡ Some cost →
    least ≤ℤ (scaled counts cost -ℤ price_at prices u +ℤ number_at rests u)
