-- Two days with the same trips, settings and times of deadheads have the same plan of blocks that is known: paths cost the same, and the
-- networks of both days are one.
use Rattle.std.proofs.Common.{◌≡◌, inl, inr, ℕ, ℤ, ◌+◌, ◌*◌, ◌&&◌, Bool, true, false, cond, nat_lt, List, [], ◌∷◌, length, map, Option, Some, None, refl, sym, ap, ◌∙◌, subst, slice_get, arith}
use Rattle.std.proofs.Math.Path.{fun_ext}
use Rattle.std.specs.Prelude.{is_some, option_and_then, unwrap_or}
use Rattle.std.specs.Option.{option_map}
use Rattle.plan_core.specs.declared.Price.{Price}
use Rattle.plan_core.specs.declared.types.Point.{Point}
use Rattle.cover_core.specs.declared.Column.{Column}
use Rattle.cover_core.specs.Cover.{Problem}
use Rattle.cover_core.specs.Plans.{IsPlan, cost}
use Rattle.cover_plan.specs.declared.known.KnownPlan.{KnownPlan}
use Rattle.trip_times.specs.declared.trip.Trip.{Trip}
use Rattle.deadheads.specs.declared.moves.Ends.{Ends}
use Rattle.deadheads.specs.DeadTimes.{dead_on}
use Rattle.plan_params.specs.declared.rows.ParamRows.{ParamRows}
use Rattle.plan_params.specs.declared.rows.pool.Pool.{Pool}
use Rattle.day_model.specs.declared.link.Link.{Link}
use Rattle.day_model.specs.Facts.{DayFacts, admits, dead}
use Rattle.day_model.specs.Links.{depot_over, direct_over, first_of, given, link, pull_in, pull_out, pull_out_over, with_trip}
use Rattle.day_model.specs.Blocks.{all_admitted, block_cost, block_worth, cost_from, link_cost, rises, trips_at}
use Rattle.day_model.proofs.Same.{same_worth}
use Rattle.depot_network.specs.Network.{caps_of}
use Rattle.depot_network.specs.Walk.{added, begun, ended}
use Rattle.path_cover.specs.Greatest.{AreGreatest}
use Rattle.path_cover.specs.Nets.{IsNotAfter, Net, successor}
use Rattle.path_cover.specs.Potentials.{ArePricesOf}
use Rattle.day_method.specs.Method.{SidePlan}
use Rattle.umlauf_write.specs.Printed.{printed}
use Rattle.one_pool_flow.specs.DayNets.{arc_of, net_of}
use Rattle.one_pool_flow.specs.Flows.{AreFlowPrices, all_blocks}
use Rattle.one_pool_flow.specs.Paths.{IsFlowPlan, IsPathPlan, columns_of, is_flow_day, is_flow_of, path_cost, paths_of, plan_cost}
use Rattle.plan_command.specs.Flow.{AreKnownBlocks, HasNoFlow, IsExact, IsKnownFlow}

-- with other lists of deadheads that tell the same times
module _ (a : DayFacts) (d : List (Ends × ℕ)) (same : (x y : Point) → dead a x y ≡ dead_on d x y) where
  abbrev moved : DayFacts
  moved = record a { deads = d }

  link_moved : (pool : Pool) (t u : Trip) → link a pool t u ≡ link moved pool t u
  link_moved pool t u =
      ap (λ o. first_of (direct_over a.params.settings t u o) (depot_over t u (dead a t.to pool.depot) (dead a pool.depot u.from)))
      (same t.to u.from)
      ∙ ap (λ o. first_of (direct_over a.params.settings t u (dead_on d t.to u.from)) (depot_over t u o (dead a pool.depot u.from)))
      (same t.to pool.depot)
      ∙ ap (λ o. first_of (direct_over a.params.settings t u (dead_on d t.to u.from)) (depot_over t u (dead_on d t.to pool.depot) o))
      (same pool.depot u.from)

  cost_moved : (pool : Pool) (t : Trip) (ts : List Trip) → cost_from a pool t ts ≡ cost_from moved pool t ts
  cost_moved pool t [] = ap (λ o. option_and_then (λ (inward : ℕ). Some (pool.dead_rate * inward)) o) (same t.to pool.depot)
  cost_moved pool t (u ∷ us) =
      ap (λ o. option_and_then (λ (l : Link). option_and_then (λ (rest : ℕ). Some (link_cost pool u l + rest)) (cost_from a pool u us)) o)
      (link_moved pool t u)
      ∙ ap (λ c. option_and_then (λ (l : Link). option_and_then (λ (rest : ℕ). Some (link_cost pool u l + rest)) c) (link moved pool t u))
      (cost_moved pool u us)

  admitted_moved : (pool : Pool) (ts : List Trip) → all_admitted a pool ts ≡ all_admitted moved pool ts
  admitted_moved pool [] = refl
  admitted_moved pool (t ∷ ts) = ap (λ b. admits a t.line pool.typ && b) (admitted_moved pool ts)

  block_moved : (pool : Pool) (ts : List Trip) → block_cost a pool ts ≡ block_cost moved pool ts
  block_moved pool [] = refl
  block_moved pool (t ∷ ts) =
      ap (λ b. given (admits a t.line pool.typ && b)
      (option_and_then (λ (out : ℕ). option_and_then (λ (rest : ℕ). Some (pool.fixed + pool.dead_rate * out + rest))
      (cost_from a pool t ts)) (pull_out a pool t))) (admitted_moved pool ts)
      ∙ ap (λ c. given (all_admitted moved pool (t ∷ ts))
      (option_and_then (λ (out : ℕ). option_and_then (λ (rest : ℕ). Some (pool.fixed + pool.dead_rate * out + rest)) c)
      (pull_out a pool t))) (cost_moved pool t ts)
      ∙ ap (λ o. given (all_admitted moved pool (t ∷ ts))
      (option_and_then (λ (out : ℕ). option_and_then (λ (rest : ℕ). Some (pool.fixed + pool.dead_rate * out + rest))
      (cost_from moved pool t ts)) (pull_out_over t o))) (same pool.depot t.from)

  -- Deadheads are exchanged under everything that asks for one: links, pull-outs, pull-ins, and so the cost of a path, by induction
  -- over its trips. Trips and settings are exchanged later, where they are equal as lists and a plain rewriting is enough.
  path_moved : path_cost a ≡ path_cost moved
  path_moved =
      let costs : block_cost a ≡ block_cost moved = fun_ext (λ pool. fun_ext (λ ts. block_moved pool ts)) in
      let path : (Pool → List Trip → Option ℕ) → ℕ → List ℕ → Option ℕ = λ cost class list.
      given (rises list) (option_and_then (λ (pool : Pool). option_and_then (λ (ts : List Trip). cost pool ts) (trips_at a.trips list))
      (slice_get a.params.pools class)) in
      ap path costs

  begun_moved : (pool : Pool) (t : ℕ) → begun a pool t ≡ begun moved pool t
  begun_moved pool t =
      let outs : (λ (trip : Trip). pull_out a pool trip) ≡ (λ (trip : Trip). pull_out moved pool trip) =
      fun_ext (λ trip. ap (λ o. pull_out_over trip o) (same pool.depot trip.from)) in
      let first : (Trip → Option ℕ) → Option ℕ =
      λ out. with_trip a t (λ trip. given (admits a trip.line pool.typ)
      (option_map (λ (o : ℕ). pool.fixed + pool.dead_rate * o) (out trip))) in
      ap first outs

  added_moved : (pool : Pool) (t u : ℕ) → added a pool t u ≡ added moved pool t u
  added_moved pool t u =
      let links : link a pool ≡ link moved pool = fun_ext (λ trip. fun_ext (λ next. link_moved pool trip next)) in
      let between : (Trip → Trip → Option Link) → Option ℕ = λ f.
      with_trip a t (λ trip. with_trip a u
      (λ next. given (nat_lt t u)
      (given (admits a next.line pool.typ) (option_map (λ (l : Link). link_cost pool next l) (f trip next))))) in
      ap between links

  ended_moved : (pool : Pool) (t : ℕ) → ended a pool t ≡ ended moved pool t
  ended_moved pool t =
      let ins : (λ (trip : Trip). pull_in a pool trip) ≡ (λ (trip : Trip). pull_in moved pool trip) =
      fun_ext (λ trip. same trip.to pool.depot) in
      let last : (Trip → Option ℕ) → Option ℕ =
      λ inward. with_trip a t (λ trip. option_map (λ (o : ℕ). pool.dead_rate * o) (inward trip)) in
      ap last ins

  arc_moved : (pool : Pool) → arc_of a pool ≡ arc_of moved pool
  arc_moved pool =
      let adds : added a pool ≡ added moved pool = fun_ext (λ t. fun_ext (λ u. added_moved pool t u)) in
      let ends : ended a pool ≡ ended moved pool = fun_ext (λ t. ended_moved pool t) in
      let begins : begun a pool ≡ begun moved pool = fun_ext (λ t. begun_moved pool t) in
      let arc : (ℕ → ℕ → Option ℕ) → (ℕ → Option ℕ) → (ℕ → Option ℕ) → ℕ → ℕ → Option ℕ = λ add end begin x v.
      cond (nat_lt x (length a.trips)) (cond (nat_lt v (length a.trips)) (add x v) (end x))
      (cond (nat_lt v (length a.trips)) (begin v) (Some 0)) in
      ap (λ f. arc f (ended a pool) (begun a pool)) adds ∙ ap (λ f. arc (added moved pool) f (begun a pool)) ends
      ∙ ap (λ f. arc (added moved pool) (ended moved pool) f) begins

module _ (a b : DayFacts) (trips : a.trips ≡ b.trips) (params : a.params ≡ b.params) (deads : (x y : Point) → dead a x y ≡ dead b x y) where
  -- the one day with trips and settings, and with the deadheads of the other
  abbrev with : List Trip → ParamRows → DayFacts
  with ts ps = record { kind = a.kind; rows = a.rows; trips = ts; params = ps; deads = b.deads }

  costs_alike : path_cost a ≡ path_cost b
  costs_alike = path_moved a b.deads deads ∙ ap (λ ts. path_cost (with ts a.params)) trips ∙ ap (λ ps. path_cost (with b.trips ps)) params

  nets_alike : (pool : Pool) → net_of a pool ≡ net_of b pool
  nets_alike pool =
      let arcs : arc_of a pool ≡ arc_of b pool = arc_moved a b.deads deads pool ∙ ap (λ ts. arc_of (with ts a.params) pool) trips
      ∙ ap (λ ps. arc_of (with b.trips ps) pool) params in
      let net : ℕ → (ℕ → ℕ → Option ℕ) → Net = λ n arc. record { nodes = n; most = pool.cap; arc = arc } in
      ap (λ (ts : List Trip). net (length ts) (arc_of a pool)) trips ∙ ap (net (length b.trips)) arcs

  problems_alike : paths_of a ≡ paths_of b
  problems_alike =
      let problem : List Trip → ParamRows → (ℕ → List ℕ → Option ℕ) → Problem =
      λ ts ps worth. record { items = length ts; caps = caps_of ps.pools; worth = worth } in
      ap (λ ts. problem ts a.params (path_cost a)) trips ∙ ap (λ ps. problem b.trips ps (path_cost a)) params
      ∙ ap (problem b.trips b.params) costs_alike

  columns_alike : columns_of a ≡ columns_of b
  columns_alike =
      let columns : (ℕ → List ℕ → Option ℕ) → List (List ℕ) → List Column =
      λ cost lists. map (λ (list : List ℕ). record { class = 0; worth = unwrap_or (cost 0 list) 0; items = list }) lists in
      ap columns costs_alike

  flow_days_alike : is_flow_day a ≡ is_flow_day b
  flow_days_alike = ap (λ (ts : List Trip). is_flow_of (length ts) a.params.pools) trips
      ∙ ap (λ (ps : ParamRows). is_flow_of (length b.trips) ps.pools) params

  plans_alike : (lists : List (List ℕ)) → IsPathPlan a lists → IsPathPlan b lists
  plans_alike lists plan =
      let P : Problem → Type 0 = λ p. IsPlan p (columns_of a lists) in
      let Q : (List (List ℕ) → List Column) → Type 0 = λ columns. IsPlan (paths_of b) (columns lists) in
      subst Q columns_alike (subst P problems_alike plan)

  plan_costs_alike : (lists : List (List ℕ)) → plan_cost a lists ≡ plan_cost b lists
  plan_costs_alike lists = ap (λ (columns : List (List ℕ) → List Column). cost (columns lists)) columns_alike

  all_blocks_alike : (lists : List (List ℕ)) → all_blocks a lists ≡ all_blocks b lists
  all_blocks_alike [] = refl
  all_blocks_alike (list ∷ lists) =
      ap (λ (worth : ℕ → List ℕ → Option ℕ). is_some (worth 0 list) && all_blocks a lists) (same_worth a b false trips params deads)
      ∙ ap (λ (rest : Bool). is_some (block_worth b false 0 list) && rest) (all_blocks_alike lists)

  prices_alike : (lists : List (List ℕ)) (prices : List Price) (class_price : ℤ) → AreFlowPrices a lists prices class_price →
      AreFlowPrices b lists prices class_price
  prices_alike lists prices class_price (pool, one, p, greatest, are) =
      let P : Net → Type 0 = λ net. AreGreatest net lists p in
      let Q : Net → Type 0 = λ net. ArePricesOf net p prices class_price in
      (pool, sym (ap (λ (ps : ParamRows). ps.pools) params) ∙ one, p, subst P (nets_alike pool) greatest, subst Q (nets_alike pool) are)

-- of two such days a flow plan of the one is one of the other
module _ (a b : DayFacts) (trips : a.trips ≡ b.trips) (params : a.params ≡ b.params) (deads : (x y : Point) → dead a x y ≡ dead b x y) where
  back : (lists : List (List ℕ)) → IsPathPlan b lists → IsPathPlan a lists
  back lists plan = plans_alike b a (sym trips) (sym params) (λ x y. sym (deads x y)) lists plan

  costs : (lists : List (List ℕ)) → plan_cost a lists ≡ plan_cost b lists
  costs lists = plan_costs_alike a b trips params deads lists

  -- To be of least cost and first is said against all other plans, so the others are carried the other way (`back`), where the days
  -- are exchanged; the costs are equal for each list (`costs`). So one flow plan of the one day is the flow plan of the other.
  flow_plans_alike : (lists : List (List ℕ)) → IsFlowPlan a lists → IsFlowPlan b lists
  flow_plans_alike lists flow = record {
    plan = plans_alike a b trips params deads lists flow.plan;
    least = λ others plan.
        let below = flow.least others (back others plan) in
        let mine = costs lists in
        let theirs = costs others in
        omega arith;
    first = λ others plan same.
        let P : ℕ → Type 0 = λ n. IsNotAfter n (successor n lists) (successor n others) in
        subst P (ap (λ (ts : List Trip). length ts) trips) (flow.first others (back others plan) (costs others ∙ same ∙ sym (costs lists)));
    ordered = flow.ordered;
  }

  known_flow_alike : (paths : List (List ℕ)) (known : KnownPlan) → IsKnownFlow a paths known → IsKnownFlow b paths known
  known_flow_alike paths known flow = record {
    flow_day = sym (flow_days_alike a b trips params deads) ∙ flow.flow_day;
    plan = flow_plans_alike paths flow.plan;
    blocks = sym (all_blocks_alike a b trips params deads paths) ∙ flow.blocks;
    columns = flow.columns ∙ ap (λ (columns : List (List ℕ) → List Column). columns paths) (columns_alike a b trips params deads);
    class_price = flow.class_price;
    prices = prices_alike a b trips params deads paths known.cost.prices.items flow.class_price flow.prices;
    class_prices = flow.class_prices;
    bound = flow.bound ∙ costs paths;
  }

  no_flow_alike : HasNoFlow a → HasNoFlow b
  no_flow_alike (inl other) = inl (sym (flow_days_alike a b trips params deads) ∙ other)
  no_flow_alike (inr (inl none)) = inr (inl (λ paths plan. none paths (back paths plan)))
  no_flow_alike (inr (inr (paths, flow, some))) =
      inr (inr (paths, flow_plans_alike paths flow, sym (all_blocks_alike a b trips params deads paths) ∙ some))

  pub known_alike : (flow : Bool) (known : Option KnownPlan) → AreKnownBlocks a flow known → AreKnownBlocks b flow known
  known_alike false known h = h
  known_alike true None h = no_flow_alike h
  known_alike true (Some known) (paths, flow) = (paths, known_flow_alike paths known flow)

-- where the flow has blocks in the one day, they are the blocks of the other
module _ (a b : DayFacts) (trips : a.trips ≡ b.trips) (params : a.params ≡ b.params) (deads : (x y : Point) → dead a x y ≡ dead b x y) where
  pub exact_alike : (flow : Bool) (blocks : SidePlan) → IsExact a flow blocks → IsExact b flow blocks
  exact_alike flow blocks exact = λ asked day paths plan are.
      let back_trips = sym trips in
      let back_params = sym params in
      let back_deads : (x y : Point) → dead b x y ≡ dead a x y = λ x y. sym (deads x y) in
      let said = exact asked (flow_days_alike a b trips params deads ∙ day) paths
      (flow_plans_alike b a back_trips back_params back_deads paths plan)
      (all_blocks_alike a b trips params deads paths ∙ are) in
      (said.0 ∙ ap (λ (columns : List (List ℕ) → List Column). printed (columns paths)) (columns_alike a b trips params deads), said.1)
