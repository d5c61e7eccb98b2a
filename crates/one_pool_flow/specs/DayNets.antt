-- Promise: a day with one pool as a network whose nodes are its trips.
use Rattle.std.specs.Prelude.{◌≡◌, ℕ, ◌+◌, ◌*◌, nat_lt, cond, length, List, [], ◌∷◌, Option, Some, None, ◌<◌, ◌≤◌, slice_index_or}
use Rattle.plan_params.specs.declared.rows.pool.Pool.{Pool}
use Rattle.day_model.specs.Facts.{DayFacts}
use Rattle.depot_network.specs.Walk.{added, begun, dear_of, ended}
use Rattle.path_cover.specs.Nets.{Net, IsCover, cover_cost}
use Rattle.one_pool_flow.specs.Paths.{IsPathPlan, plan_cost}

-- Connections between trips, pull-outs where an arc begins with the store, pull-ins where it ends with the end, and a vehicle that stays.
abbrev pub arc_of : DayFacts → Pool → ℕ → ℕ → Option ℕ
arc_of day pool x v =
    cond (nat_lt x (length day.trips))
    (cond (nat_lt v (length day.trips)) (added day pool x v) (ended day pool x))
    (cond (nat_lt v (length day.trips)) (begun day pool v) (Some 0))

abbrev pub net_of : DayFacts → Pool → Net
net_of day pool = record { nodes = length day.trips; most = pool.cap; arc = arc_of day pool }

-- the plans of paths of a day are the covers of its network, at the same cost
abbrev pub PlansAreCovers : DayFacts → Pool → Type 0
PlansAreCovers day pool =
    day.params.pools ≡ pool ∷ [] → (lists : List (List ℕ)) →
    (IsPathPlan day lists → IsCover (net_of day pool) lists) × (IsCover (net_of day pool) lists → IsPathPlan day lists)
    × (plan_cost day lists ≡ cover_cost (net_of day pool) lists)

-- what the arcs from a row to the columns below a limit cost, laid out
pub record IsLaidRow (day : DayFacts) (pool : Pool) (n x limit : ℕ) (row : List (Option ℕ)) : Type 0 where
  pub count : length row ≡ limit
  pub cells : (v : ℕ) → v < limit → slice_index_or row v None ≡ arc_of day pool x v
  pub dear : (v c : ℕ) → v < limit → slice_index_or row v None ≡ Some c → c ≤ dear_of pool

-- and those from the rows below a limit
pub record IsLaid (day : DayFacts) (pool : Pool) (n limit : ℕ) (rows : List (List (Option ℕ))) : Type 0 where
  pub count : length rows ≡ limit
  pub each : (x : ℕ) → x < limit → IsLaidRow day pool n x (n + 1) (slice_index_or rows x [])
