-- Promise: the flow plan of a day, with prices that prove that it costs least.
use Rattle.std.specs.Prelude.{◌≡◌, ℕ, ℤ, pos, ◌≤ℤ◌, ◌&&◌, Bool, true, false, is_some, List, [], ◌∷◌, length}
use Rattle.plan_core.specs.Limits.{most_kept_price}
use Rattle.plan_core.specs.declared.Price.{Price}
use Rattle.plan_params.specs.declared.rows.pool.Pool.{Pool}
use Rattle.cover_core.specs.FirstLeast.{AllWithin}
use Rattle.cover_core.specs.Plans.{IsPaid, IsPlan, bound_of, cost}
use Rattle.day_model.specs.Blocks.{block_worth}
use Rattle.day_model.specs.Facts.{DayFacts}
use Rattle.depot_network.specs.Network.{blocks_of}
use Rattle.path_cover.specs.Greatest.{AreGreatest}
use Rattle.path_cover.specs.Potentials.{Potentials, ArePricesOf}
use Rattle.one_pool_flow.specs.DayNets.{net_of}
use Rattle.one_pool_flow.specs.Paths.{IsFlowPlan, IsPathPlan, columns_of, paths_of, plan_cost}

-- The flow prices of a plan: those of the greatest potentials of the day's network that go with it (linear programming's complementary
-- slackness). Each trip has two potentials, one as a connection or a pull-out enters it and one as a connection or a pull-in leaves it; the
-- store and the end have one each. None is above 0. The potential where a connection, the pull-out of an admitted trip or a pull-in ends is
-- above the one where it begins by no more than that adds to the cost of a path, and the end's is not above the store's, as a vehicle that
-- stays in the store costs nothing. There is equality where the plan uses a connection or a pull, or leaves a vehicle in the store. The
-- greatest potentials are unique. The price of a trip is a thousand times how far its first potential is above its second one, the class
-- price a thousand times how far the store's is above the end's. Where there is a plan, each trip is admitted, so a pull-in asks no
-- admission.
abbrev pub AreFlowPrices : DayFacts → List (List ℕ) → List Price → ℤ → Type 0
AreFlowPrices day lists prices class_price =
    (pool : Pool) × (day.params.pools ≡ pool ∷ []) × (p : Potentials) × AreGreatest (net_of day pool) lists p
    × ArePricesOf (net_of day pool) p prices class_price

-- prices that are paid over all paths, and whose bound is the cost of a plan
pub record AreFlowBound (day : DayFacts) (lists : List (List ℕ)) (prices : List Price) (class_price : ℤ) : Type 0 where
  pub paid : IsPaid (paths_of day) prices (class_price ∷ [])
  pub bound : bound_of prices (class_price ∷ []) (paths_of day).caps ≡ plan_cost day lists

-- a price for each trip, none of them above 3 * 10^15 in size; the class price is from 0 to 3 * 10^15
pub record AreModerate (day : DayFacts) (prices : List Price) (class_price : ℤ) : Type 0 where
  pub count : length prices ≡ length day.trips
  pub within : AllWithin most_kept_price prices
  pub charged : pos 0 ≤ℤ class_price
  pub most : class_price ≤ℤ pos most_kept_price

-- each path is also a block: all pieces that it is cut into can be driven
abbrev pub all_blocks : DayFacts → List (List ℕ) → Bool
all_blocks day [] = true
all_blocks day (list ∷ lists) = is_some (block_worth day false 0 list) && all_blocks day lists

-- paths as a plan of blocks, with prices that are paid over all blocks and whose bound is the plan's cost
pub record AreBlockBound (day : DayFacts) (lists : List (List ℕ)) (prices : List Price) (class_price : ℤ) : Type 0 where
  pub plan : IsPlan (blocks_of day false) (columns_of day lists)
  pub paid : IsPaid (blocks_of day false) prices (class_price ∷ [])
  pub bound : bound_of prices (class_price ∷ []) (blocks_of day false).caps ≡ cost (columns_of day lists)

-- a day has no two flow plans
abbrev pub FlowPlanIsOne : DayFacts → Type 0
FlowPlanIsOne day = (one other : List (List ℕ)) → IsFlowPlan day one → IsFlowPlan day other → one ≡ other

-- nor has a plan two lists of flow prices
abbrev pub FlowPricesAreOne : DayFacts → Type 0
FlowPricesAreOne day =
    (lists : List (List ℕ)) (prices others : List Price) (class_price other : ℤ) → AreFlowPrices day lists prices class_price →
    AreFlowPrices day lists others other →
    (prices ≡ others) × (class_price ≡ other)

-- where each path of a plan is a block, the plan is one of blocks, and its prices prove that it costs least of these too
abbrev pub PathsAreBlocks : DayFacts → Type 0
PathsAreBlocks day =
    (lists : List (List ℕ)) (prices : List Price) (class_price : ℤ) → IsPathPlan day lists → all_blocks day lists ≡ true →
    AreFlowBound day lists prices class_price →
    AreBlockBound day lists prices class_price
