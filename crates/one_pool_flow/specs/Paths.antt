-- Promise: days with one pool: plans of paths, the least of them, and of several the first.
use Rattle.std.specs.Prelude.{◌≡◌, ℕ, ◌+◌, ◌*◌, ◌≤◌, Bool, false, nat_le, List, [], ◌∷◌, length, map, Option, option_and_then, unwrap_or, slice_get}
use Rattle.plan_core.specs.Limits.{most_kept_price}
use Rattle.plan_params.specs.declared.rows.pool.Pool.{Pool}
use Rattle.cover_core.specs.declared.Column.{Column}
use Rattle.cover_core.specs.Cover.{Problem, Rises}
use Rattle.cover_core.specs.Plans.{IsPlan, cost}
use Rattle.day_model.specs.Facts.{DayFacts}
use Rattle.day_model.specs.Links.{given}
use Rattle.day_model.specs.Blocks.{block_cost, rises, trips_at}
use Rattle.depot_network.specs.Network.{caps_of}
use Rattle.path_cover.specs.Nets.{IsNotAfter, first_nodes, successor}

-- one pool, and costs so small that all numbers fit
abbrev pub is_flow_of : ℕ → List Pool → Bool
is_flow_of trips (pool ∷ []) = nat_le (4000 * (trips + 2) * (pool.fixed + 345600 * (pool.dead_rate + pool.stand_rate))) most_kept_price
is_flow_of trips _ = false

abbrev pub is_flow_day : DayFacts → Bool
is_flow_day day = is_flow_of (length day.trips) day.params.pools

-- A path is a list of trips that is not empty and rises, whose lines admit the pool's type, whose pull-out leaves at 0 or later, whose
-- pull-in is there and whose neighbours have connections. It costs the fixed cost, its pulls and its connections.
abbrev pub path_cost : DayFacts → ℕ → List ℕ → Option ℕ
path_cost day class list =
    given (rises list)
    (option_and_then (λ pool. option_and_then (λ ts. block_cost day pool ts) (trips_at day.trips list)) (slice_get day.params.pools class))

-- the paths of a day as a set partitioning problem
abbrev pub paths_of : DayFacts → Problem
paths_of day = record { items = length day.trips; caps = caps_of day.params.pools; worth = path_cost day }

-- a list of the one pool as a column
abbrev pub path_column : DayFacts → List ℕ → Column
path_column day list = record { class = 0; worth = unwrap_or (path_cost day 0 list) 0; items = list }

abbrev pub columns_of : DayFacts → List (List ℕ) → List Column
columns_of day lists = map (path_column day) lists

-- a plan: each trip stands in exactly one path, and there are no more paths than vehicles (ANZAHL)
abbrev pub IsPathPlan : DayFacts → List (List ℕ) → Type 0
IsPathPlan day lists = IsPlan (paths_of day) (columns_of day lists)

abbrev pub plan_cost : DayFacts → List (List ℕ) → ℕ
plan_cost day lists = cost (columns_of day lists)

-- The flow plan: a plan of least cost, and of several the one whose list of successors comes first. Its paths are ordered by their first
-- trips.
pub record IsFlowPlan (day : DayFacts) (lists : List (List ℕ)) : Type 0 where
  pub plan : IsPathPlan day lists
  pub least : (others : List (List ℕ)) → IsPathPlan day others → plan_cost day lists ≤ plan_cost day others
  pub first : (others : List (List ℕ)) → IsPathPlan day others → plan_cost day others ≡ plan_cost day lists →
      IsNotAfter (length day.trips) (successor (length day.trips) lists) (successor (length day.trips) others)
  pub ordered : Rises (first_nodes lists)
