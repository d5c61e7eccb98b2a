-- A path is not empty, rises, and has trips of the day alone; and a block is a path that costs the same.
use Rattle.std.proofs.Common.{◌≡◌, ◌≢◌, ℕ, Bool, true, false, cond, List, [], ◌∷◌, length, Option, Some, None, refl, sym, ◌∙◌, slice_get}
use Rattle.std.specs.Prelude.{is_some, option_and_then, unwrap_or}
use Rattle.std.proofs.lemmas.Bool.{and_parts}
use Rattle.plan_core.proofs.Options.{and_then_some, given_some}
use Rattle.trip_times.specs.declared.trip.Trip.{Trip}
use Rattle.plan_params.specs.declared.rows.pool.Pool.{Pool}
use Rattle.cover_core.specs.Cover.{AllBelow, Rises}
use Rattle.cover_core.specs.Plans.{AreColumns}
use Rattle.day_model.specs.Facts.{DayFacts}
use Rattle.day_model.specs.Links.{given}
use Rattle.day_model.specs.Blocks.{block_cost, block_worth, rises, trips_at}
use Rattle.day_model.specs.Pieces.{can_be_driven}
use Rattle.depot_network.specs.Network.{blocks_of}
use Rattle.depot_network.specs.Listed.{none_of_none, rises_rise, trips_below}
use Rattle.one_pool_flow.specs.Flows.{PathsAreBlocks, all_blocks}
use Rattle.one_pool_flow.specs.Paths.{columns_of, path_cost, paths_of}

-- a list with a cost
pub path_listed : (day : DayFacts) (class : ℕ) (list : List ℕ) (worth : ℕ) → path_cost day class list ≡ Some worth →
    (list ≢ []) × Rises list × AllBelow (length day.trips) list
path_listed day class list worth e =
    let of_trips : Pool → Option ℕ = λ pool. option_and_then (λ (ts : List Trip). block_cost day pool ts) (trips_at day.trips list) in
    let tested = given_some (rises list) (option_and_then of_trips (slice_get day.params.pools class)) worth e in
    let pooled = and_then_some of_trips (slice_get day.params.pools class) worth tested.1 in
    let found = and_then_some (λ (ts : List Trip). block_cost day pooled.0 ts) (trips_at day.trips list) worth pooled.2 in
    (none_of_none day pooled.0 list found.0 worth found.1 found.2, rises_rise list tested.0, trips_below day.trips list found.0 found.1)

-- the worth of a block, without its driving
kept_inside : (driven : Bool) (f : List Trip → Option ℕ) (found : Option (List Trip)) (worth : ℕ) →
    given driven (option_and_then (λ (ts : List Trip). option_and_then (λ (c : ℕ). Some (cond false 1 c)) (f ts)) found) ≡ Some worth →
    option_and_then f found ≡ Some worth
kept_inside false f found worth e = absurd (cc)
kept_inside true f None worth e = e
kept_inside true f (Some ts) worth e = go (f ts) e
  where
    go : (o : Option ℕ) → option_and_then (λ (c : ℕ). Some (cond false 1 c)) o ≡ Some worth → o ≡ Some worth
    go None e = e
    go (Some c) e = e

kept_over : (b : Bool) (f g : Pool → Option ℕ) (o : Option Pool) (worth : ℕ) → ((q : Pool) → f q ≡ Some worth → g q ≡ Some worth) →
    given b (option_and_then f o) ≡ Some worth → given b (option_and_then g o) ≡ Some worth
kept_over false f g o worth keep e = e
kept_over true f g None worth keep e = e
kept_over true f g (Some q) worth keep e = keep q e

-- A block is a path that costs what the block is worth: the rules of blocks ask for all that those of paths do, and for the driving
-- of each piece besides; the cost is the same. So there are fewer blocks than paths, and what is paid over all paths is paid over
-- all blocks.
pub block_is_path : (day : DayFacts) (class : ℕ) (list : List ℕ) (worth : ℕ) → block_worth day false class list ≡ Some worth →
    path_cost day class list ≡ Some worth
block_is_path day class list worth e =
    kept_over (rises list)
    (λ pool. given (can_be_driven day pool list)
    (option_and_then (λ (ts : List Trip). option_and_then (λ (c : ℕ). Some (cond false 1 c)) (block_cost day pool ts))
    (trips_at day.trips list)))
    (λ pool. option_and_then (λ (ts : List Trip). block_cost day pool ts) (trips_at day.trips list))
    (slice_get day.params.pools class) worth
    (λ pool. kept_inside (can_be_driven day pool list) (λ (ts : List Trip). block_cost day pool ts) (trips_at day.trips list) worth) e

is_there : (o : Option ℕ) → is_some o ≡ true → o ≡ Some (unwrap_or o 0)
is_there None e = absurd (cc)
is_there (Some c) e = refl

-- paths that are blocks are columns of both problems
block_columns : (day : DayFacts) (lists : List (List ℕ)) → all_blocks day lists ≡ true → AreColumns (paths_of day) (columns_of day lists) →
    AreColumns (blocks_of day false) (columns_of day lists)
block_columns day [] blocks are = tt
block_columns day (list ∷ lists) blocks are =
    let parts = and_parts (is_some (block_worth day false 0 list)) (all_blocks day lists) blocks in
    let there = is_there (block_worth day false 0 list) parts.0 in
    let same : path_cost day 0 list ≡ block_worth day false 0 list =
    block_is_path day 0 list (unwrap_or (block_worth day false 0 list) 0) there ∙ sym there in
    ((are.0.0, sym same ∙ are.0.1), block_columns day lists parts.1 are.1)

-- Where each path of a flow plan can also be driven, the flow solves the blocks' problem: its paths are a plan of blocks at the same
-- cost, its prices are paid over all blocks as these are paths, and their bound is the plan's cost. So no plan of blocks costs less,
-- though the flow knew nothing of driving. It is the contract of `flow_plan_of_blocks`.
pub paths_are_blocks : (day : DayFacts) → PathsAreBlocks day
paths_are_blocks day lists prices class_price plan blocks bound = record {
  plan = record { worths = block_columns day lists blocks plan.worths; once = plan.once; caps = plan.caps };
  paid = record {
    charged = bound.paid.charged;
    covered = λ class list worth below has. bound.paid.covered class list worth below (block_is_path day class list worth has);
  };
  bound = bound.bound;
}
