-- Promise: the blocks of a day that are known before any pass with costs: those of the flow plan of a day with one pool, where the words
-- ask for it.
use Rattle.std.specs.Prelude.{◌≡◌, ◌⊎◌, ℕ, ℤ, Bool, true, false, List, [], ◌∷◌, Option, Some, None, unwrap_or}
use Rattle.plan_core.specs.declared.Price.{Price}
use Rattle.cover_core.specs.declared.Column.{Column}
use Rattle.cover_core.specs.Plans.{cost}
use Rattle.cover_plan.specs.declared.known.KnownPlan.{KnownPlan}
use Rattle.day_method.specs.Method.{SidePlan}
use Rattle.day_model.specs.Blocks.{block_worth}
use Rattle.day_model.specs.Facts.{DayFacts}
use Rattle.one_pool_flow.specs.Flows.{AreFlowBound, AreFlowPrices, AreModerate, all_blocks}
use Rattle.one_pool_flow.specs.Paths.{IsFlowPlan, IsPathPlan, columns_of, is_flow_day, plan_cost}
use Rattle.umlauf_write.specs.Printed.{printed}

-- a path as a column of the one pool, with its worth as a block, or 0 where it is none
abbrev pub block_column : DayFacts → List ℕ → Column
block_column facts path = record { class = 0; worth = unwrap_or (block_worth facts false 0 path) 0; items = path }

-- a flow plan that was found, with the flow prices
pub record IsFoundFlow (facts : DayFacts) (paths : List (List ℕ)) (prices : List Price) (class_price : ℤ) : Type 0 where
  pub flow_day : is_flow_day facts ≡ true
  pub plan : IsFlowPlan facts paths
  pub priced : AreFlowPrices facts paths prices class_price
  pub bound : AreFlowBound facts paths prices class_price
  pub moderate : AreModerate facts prices class_price

-- the flow plan of a day, whose paths are blocks, with the flow prices and their bound
pub record IsKnownFlow (facts : DayFacts) (paths : List (List ℕ)) (known : KnownPlan) : Type 0 where
  pub flow_day : is_flow_day facts ≡ true
  pub plan : IsFlowPlan facts paths
  pub blocks : all_blocks facts paths ≡ true
  pub columns : known.plan.columns ≡ columns_of facts paths
  pub class_price : ℤ
  pub prices : AreFlowPrices facts paths known.cost.prices.items class_price
  pub class_prices : known.cost.class_prices ≡ class_price ∷ []
  pub bound : known.cost.bound ≡ plan_cost facts paths

-- the flow has no blocks: the day is no flow day, it has no plan of paths, or a path of its flow plan is no block
abbrev pub HasNoFlow : DayFacts → Type 0
HasNoFlow facts =
    (is_flow_day facts ≡ false) ⊎
    (((paths : List (List ℕ)) → IsPathPlan facts paths → ⊥) ⊎
    ((paths : List (List ℕ)) × IsFlowPlan facts paths × (all_blocks facts paths ≡ false)))

-- which plan of blocks is known: none where the words do not ask for the flow
abbrev pub AreKnownBlocks : DayFacts → Bool → Option KnownPlan → Type 0
AreKnownBlocks facts false known = known ≡ None
AreKnownBlocks facts true None = HasNoFlow facts
AreKnownBlocks facts true (Some known) = (paths : List (List ℕ)) × IsKnownFlow facts paths known

-- Where the words ask for the flow, the day is a flow day, and it has a flow plan whose paths are blocks, these are the blocks in printed
-- order, and the bound of their cost is their cost.
abbrev pub IsExact : DayFacts → Bool → SidePlan → Type 0
IsExact facts flow blocks =
    flow ≡ true → is_flow_day facts ≡ true → (paths : List (List ℕ)) → IsFlowPlan facts paths → all_blocks facts paths ≡ true →
    (blocks.columns ≡ printed (columns_of facts paths)) × (blocks.cost.bound ≡ cost blocks.columns)
