-- A flow plan whose paths are blocks is a plan of blocks, and its prices are dual feasible over them.
use Rattle.std.proofs.Common.{◌≡◌, ℕ, suc, ℤ, ◌+◌, ◌<◌, ◌≤◌, ◌&&◌, Bool, true, false, All, List, [], ◌∷◌, ◌++◌, length, map, drop, get_or, Option, Some, None, refl, sym, ap, ◌∙◌, subst}
use Rattle.std.specs.Prelude.{is_some, unwrap_or}
use Rattle.std.proofs.lemmas.List.Elements.{All-cons, All-nil}
use Rattle.std.proofs.lemmas.List.{append_assoc}
use Rattle.std.proofs.lemmas.Bool.{and_parts}
use Rattle.vdv452_rows.proofs.RowSteps.{drop_item}
use Rattle.plan_core.specs.declared.Price.{Price}
use Rattle.plan_params.specs.declared.rows.pool.Pool.{Pool}
use Rattle.cover_core.specs.declared.Column.{Column}
use Rattle.cover_core.specs.Cover.{AllBelow}
use Rattle.cover_core.specs.FirstLeast.{AreCheap}
use Rattle.cover_core.specs.Plans.{AreColumns, IsPlan, WeakDuality, bound_of, cost}
use Rattle.dual_bound.specs.declared.kept.Kept.{Kept}
use Rattle.price_rounds.specs.Rounds.{IsBoundOf}
use Rattle.day_model.specs.Blocks.{block_worth}
use Rattle.day_model.specs.Facts.{DayFacts}
use Rattle.depot_network.specs.Network.{blocks_of, caps_of}
use Rattle.one_pool_flow.specs.Flows.{AreBlockBound, AreFlowPrices, PathsAreBlocks, all_blocks}
use Rattle.one_pool_flow.specs.Paths.{columns_of, path_column, path_cost, paths_of}
use Rattle.one_pool_flow.proofs.Listed.{block_is_path, path_listed}
use Rattle.plan_command.specs.Flow.{IsFoundFlow, IsKnownFlow, block_column}
use Rattle.plan_command.specs.Planning.{IsDualFeasible}

-- the trips of paths of a plan are there
pub paths_below : (facts : DayFacts) (paths : List (List ℕ)) → AreColumns (paths_of facts) (columns_of facts paths) →
    All (AllBelow (length facts.trips)) paths
paths_below facts [] are = All-nil (AllBelow (length facts.trips))
paths_below facts (path ∷ paths) are =
    let listed = path_listed facts 0 path (unwrap_or (path_cost facts 0 path) 0) are.0.1 in
    All-cons (AllBelow (length facts.trips)) path paths listed.2 (paths_below facts paths are.1)

-- there is a pool
pub one_pool : (facts : DayFacts) (paths : List (List ℕ)) (prices : List Price) (class_price : ℤ) →
    AreFlowPrices facts paths prices class_price → length facts.params.pools ≡ 1
one_pool facts paths prices class_price are = ap (λ (pools : List Pool). length pools) are.1

-- a block costs as a path what it is worth
same_column : (facts : DayFacts) (path : List ℕ) (o : Option ℕ) → block_worth facts false 0 path ≡ o → is_some o ≡ true →
    block_column facts path ≡ path_column facts path
same_column facts path None is some = absurd (let bad : false ≡ true = some in cc)
same_column facts path (Some worth) is some =
    let column : ℕ → Column = λ n. record { class = 0; worth = n; items = path } in
    ap (λ (o : Option ℕ). column (unwrap_or o 0)) is
    ∙ sym (ap (λ (o : Option ℕ). column (unwrap_or o 0)) (block_is_path facts 0 path worth is))

-- A list of trips costs as a path of the network what it is worth as a block, where it is a block (`block_is_path`). So if each path
-- of a flow plan is a block, blocks and paths are one list of columns, and what the flow says of paths (a plan, its cost, its prices)
-- is said of blocks.
pub same_columns : (facts : DayFacts) (paths : List (List ℕ)) → all_blocks facts paths ≡ true →
    map (block_column facts) paths ≡ columns_of facts paths
same_columns facts [] all = refl
same_columns facts (path ∷ paths) all =
    let both = and_parts (is_some (block_worth facts false 0 path)) (all_blocks facts paths) all in
    ap (λ (c : Column). c ∷ map (block_column facts) paths) (same_column facts path (block_worth facts false 0 path) refl both.0)
    ∙ ap (λ (cs : List Column). path_column facts path ∷ cs) (same_columns facts paths both.1)

-- one more path that was looked at
pub all_from : (worth : Option ℕ) (rest : Bool) → is_some worth ≡ true → (is_some worth && rest) ≡ rest
all_from (Some worth) rest some = refl
all_from None rest some = absurd (let bad : false ≡ true = some in cc)

pub cheap_more : (cs : List Column) (c : Column) → AreCheap cs → c.worth ≤ 4000000000 → AreCheap (cs ++ c ∷ [])
cheap_more [] c cheap one = (one, tt)
cheap_more (d ∷ ds) c cheap one = (cheap.0, cheap_more ds c cheap.1 one)

-- The invariant of the loop that turns paths into columns: the columns made so far and those of the paths that are left are those of
-- all paths. One path goes from the one part to the other.
pub blocks_so_far : (f : List ℕ → Column) (paths : List (List ℕ)) (i : ℕ) (path : List ℕ) (cs new : List Column) (c : Column) →
    i < length paths → path ≡ get_or paths i path →
    map f paths ≡ cs ++ map f (drop i paths) → c ≡ f path → new ≡ cs ++ c ∷ [] → map f paths ≡ new ++ map f (drop (i + 1) paths)
blocks_so_far f paths i path cs new c within is so_far column pushed =
    let at : drop i paths ≡ path ∷ drop (i + 1) paths = drop_item paths i path within is in
    let rest = map f (drop (i + 1) paths) in
    so_far
    ∙ ap (λ (ps : List (List ℕ)). cs ++ map f ps) at
    ∙ ap (λ (d : Column). cs ++ d ∷ rest) (sym column)
    ∙ sym (append_assoc cs (c ∷ []) rest)
    ∙ ap (λ (ds : List Column). ds ++ rest) (sym pushed)

-- prices of a flow plan over blocks
module _ (facts : DayFacts) (paths : List (List ℕ)) (prices : List Price) (class_price : ℤ)
    (found : IsFoundFlow facts paths prices class_price) (blocks : PathsAreBlocks facts) (all : all_blocks facts paths ≡ true) where
  over : AreBlockBound facts paths prices class_price
  over = blocks paths prices class_price found.plan.plan all found.bound

  pub is_plan : (columns : List Column) → columns ≡ map (block_column facts) paths → IsPlan (blocks_of facts false) columns
  is_plan columns are = subst (λ cs. IsPlan (blocks_of facts false) cs) (sym (are ∙ same_columns facts paths all)) over.plan

  length_caps : (pools : List Pool) → length (caps_of pools) ≡ length pools
  length_caps [] = refl
  length_caps (pool ∷ pools) = ap (λ (n : ℕ). suc n) (length_caps pools)

  classes : length (class_price ∷ []) ≡ length (blocks_of facts false).caps
  classes = sym (length_caps facts.params.pools ∙ one_pool facts paths prices class_price found.priced)

  -- the offer of the flow prices
  abbrev pub offer : ℕ → Kept
  offer bound = record { prices = record { items = prices }; class_prices = class_price ∷ []; bound = bound }

  -- the columns with the flow prices, whose bound is their cost
  module _ (columns : List Column) (bound : ℕ) (are : columns ≡ map (block_column facts) paths) (is : bound ≡ cost columns) (kept : Kept)
      (same : kept ≡ offer bound) where
    -- The flow prices are paid over all blocks and their bound is the cost of the flow plan (`PathsAreBlocks`), where each path of
    -- that plan is a block. So a plan of blocks is known together with an offer whose bound is its cost, and the offer is dual
    -- feasible as one of a pass is.
    pub is_feasible : IsDualFeasible (blocks_of facts false) kept
    is_feasible = subst (λ k. IsDualFeasible (blocks_of facts false) k) (sym same) (record {
      prices = (found.moderate.count, found.moderate.within);
      class_prices = classes;
      paid = over.paid;
      bound = is ∙ ap cost (are ∙ same_columns facts paths all) ∙ sym over.bound;
    })

    pub is_bound : WeakDuality (blocks_of facts false) → IsBoundOf (blocks_of facts false) kept.bound
    is_bound duality = λ others plan.
        let P : ℕ → Type 0 = λ n. n ≤ cost others in
        let bounds : kept.bound ≡ bound_of prices (class_price ∷ []) (blocks_of facts false).caps =
        ap (λ (k : Kept). k.bound) same ∙ is ∙ ap cost (are ∙ same_columns facts paths all) ∙ sym over.bound in
        subst P (sym bounds) (duality prices (class_price ∷ []) found.moderate.count classes over.paid others plan)

    pub is_known : IsKnownFlow facts paths (record { plan = record { columns = columns }; cost = kept })
    is_known =
        let P : Kept → Type 0 = λ k. IsKnownFlow facts paths (record { plan = record { columns = columns }; cost = k }) in
        subst P (sym same) (record {
          flow_day = found.flow_day;
          plan = found.plan;
          blocks = all;
          columns = are ∙ same_columns facts paths all;
          class_price = class_price;
          prices = found.priced;
          class_prices = refl;
          bound = is ∙ ap cost (are ∙ same_columns facts paths all);
        })
