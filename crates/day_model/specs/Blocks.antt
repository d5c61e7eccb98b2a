-- Promise: what a list of trips is worth as a block of a pool (multi-depot vehicle scheduling).
use Rattle.std.specs.Prelude.{ℕ, ◌+◌, ◌*◌, Bool, true, cond, ◌&&◌, nat_lt, List, [], ◌∷◌, Option, Some, None, option_and_then, slice_get}
use Rattle.vdv452_tables.specs.Keys.{point_eq}
use Rattle.trip_times.specs.declared.trip.Trip.{Trip}
use Rattle.plan_params.specs.declared.rows.pool.Pool.{Pool}
use Rattle.day_model.specs.declared.link.Link.{Link}
use Rattle.day_model.specs.declared.link.Link.TheVariants.{Direct, Depot}
use Rattle.day_model.specs.Facts.{DayFacts, admits}
use Rattle.day_model.specs.Links.{given, link, pull_in, pull_out}
use Rattle.day_model.specs.Pieces.{can_be_driven}

-- the trips of a list of numbers, where all are there
abbrev pub trips_at : List Trip → List ℕ → Option (List Trip)
trips_at trips [] = Some []
trips_at trips (k ∷ ks) = option_and_then (λ t. option_and_then (λ ts. Some (t ∷ ts)) (trips_at trips ks)) (slice_get trips k)

abbrev pub rises : List ℕ → Bool
rises [] = true
rises (x ∷ []) = true
rises (x ∷ y ∷ rest) = nat_lt x y && rises (y ∷ rest)

-- each trip's line admits the pool's type
abbrev pub all_admitted : DayFacts → Pool → List Trip → Bool
all_admitted day pool [] = true
all_admitted day pool (t ∷ ts) = admits day t.line pool.typ && all_admitted day pool ts

-- the seconds that are driven empty on a connection
abbrev pub dead_seconds : Link → ℕ
dead_seconds (Direct move stand) = move
dead_seconds (Depot inward outward stand) = inward + outward

-- the seconds stood at another point than the depot's
abbrev pub stand_seconds : Pool → Trip → Link → ℕ
stand_seconds pool u (Direct move stand) = cond (point_eq u.from pool.depot) 0 stand
stand_seconds pool u (Depot inward outward stand) = 0

-- what a connection to a trip costs
abbrev pub link_cost : Pool → Trip → Link → ℕ
link_cost pool u l = pool.dead_rate * dead_seconds l + pool.stand_rate * stand_seconds pool u l

-- the cost from a trip on: its connections to the trips after it and the pull-in
abbrev pub cost_from : DayFacts → Pool → Trip → List Trip → Option ℕ
cost_from day pool t [] = option_and_then (λ inward. Some (pool.dead_rate * inward)) (pull_in day pool t)
cost_from day pool t (u ∷ us) =
    option_and_then (λ l. option_and_then (λ rest. Some (link_cost pool u l + rest)) (cost_from day pool u us)) (link day pool t u)

-- the fixed cost, the pull-out and the rest
abbrev pub block_cost : DayFacts → Pool → List Trip → Option ℕ
block_cost day pool [] = None
block_cost day pool (t ∷ ts) =
    given (all_admitted day pool (t ∷ ts))
    (option_and_then (λ out. option_and_then (λ rest. Some (pool.fixed + pool.dead_rate * out + rest)) (cost_from day pool t ts))
    (pull_out day pool t))

-- The worth of a list of trips as a block of a pool: its cost, or 1 where blocks are counted. A list has one where it is not empty and
-- rises, each trip's line admits the pool's type, the pull-out leaves at 0 or later, the pull-in is there, neighbours have connections, and
-- each piece that it is cut into has a driving of at most 16,200 seconds.
abbrev pub block_worth : DayFacts → Bool → ℕ → List ℕ → Option ℕ
block_worth day counts class list =
    given (rises list)
    (option_and_then (λ pool. given (can_be_driven day pool list)
    (option_and_then (λ ts. option_and_then (λ c. Some (cond counts 1 c)) (block_cost day pool ts)) (trips_at day.trips list)))
    (slice_get day.params.pools class))
