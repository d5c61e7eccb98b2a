-- Two days with the same trips, settings and times of deadheads have the same blocks.
use Rattle.std.proofs.Common.{◌≡◌, ℕ, pos, ◌+ℤ◌, ◌-ℤ◌, ◌+◌, ◌*◌, ◌&&◌, Bool, false, cond, List, [], ◌∷◌, ◌++◌, Option, Some, None, refl, ap, ◌∙◌, slice_get}
use Rattle.std.proofs.Math.Path.{fun_ext}
use Rattle.std.specs.Prelude.{option_and_then}
use Rattle.std.specs.List.{list_all}
use Rattle.std.specs.Option.{option_map_or}
use Rattle.plan_core.specs.declared.types.Leg.{Leg}
use Rattle.plan_core.specs.declared.types.LegKind.TheVariants.{PullIn, PullOut}
use Rattle.plan_core.specs.declared.types.Point.{Point}
use Rattle.trip_times.specs.declared.trip.Trip.{Trip}
use Rattle.deadheads.specs.declared.moves.Ends.{Ends}
use Rattle.deadheads.specs.DeadTimes.{dead_on}
use Rattle.plan_params.specs.declared.rows.ParamRows.{ParamRows}
use Rattle.plan_params.specs.declared.rows.pool.Pool.{Pool}
use Rattle.day_model.specs.declared.link.Link.{Link}
use Rattle.day_model.specs.Facts.{DayFacts, admits, dead}
use Rattle.day_model.specs.Links.{depot_over, direct_over, first_of, given, link, pull_out, pull_out_over}
use Rattle.day_model.specs.Pieces.{can_be_driven, is_cut, leg, legs_from, legs_of, link_legs, may_be_driven, onto_first, parts, pieces_from, shown, trip_leg}
use Rattle.day_model.specs.Blocks.{all_admitted, block_cost, block_worth, cost_from, link_cost, rises, trips_at}

module _ (a : DayFacts) (d : List (Ends × ℕ)) (same : (x y : Point) → dead a x y ≡ dead_on d x y) where
  abbrev pub other : DayFacts
  other = record a { deads = d }

  link_same : (pool : Pool) (t u : Trip) → link a pool t u ≡ link other pool t u
  link_same pool t u =
      ap (λ o. first_of (direct_over a.params.settings t u o) (depot_over t u (dead a t.to pool.depot) (dead a pool.depot u.from)))
      (same t.to u.from)
      ∙ ap (λ o. first_of (direct_over a.params.settings t u (dead_on d t.to u.from)) (depot_over t u o (dead a pool.depot u.from)))
      (same t.to pool.depot)
      ∙ ap (λ o. first_of (direct_over a.params.settings t u (dead_on d t.to u.from)) (depot_over t u (dead_on d t.to pool.depot) o))
      (same pool.depot u.from)

  cost_same : (pool : Pool) (t : Trip) (ts : List Trip) → cost_from a pool t ts ≡ cost_from other pool t ts
  cost_same pool t [] = ap (λ o. option_and_then (λ (inward : ℕ). Some (pool.dead_rate * inward)) o) (same t.to pool.depot)
  cost_same pool t (u ∷ us) =
      ap (λ o. option_and_then (λ (l : Link). option_and_then (λ (rest : ℕ). Some (link_cost pool u l + rest)) (cost_from a pool u us)) o)
      (link_same pool t u)
      ∙ ap (λ c. option_and_then (λ (l : Link). option_and_then (λ (rest : ℕ). Some (link_cost pool u l + rest)) c) (link other pool t u))
      (cost_same pool u us)

  admitted_same : (pool : Pool) (ts : List Trip) → all_admitted a pool ts ≡ all_admitted other pool ts
  admitted_same pool [] = refl
  admitted_same pool (t ∷ ts) = ap (λ b. admits a t.line pool.typ && b) (admitted_same pool ts)

  block_same : (pool : Pool) (ts : List Trip) → block_cost a pool ts ≡ block_cost other pool ts
  block_same pool [] = refl
  block_same pool (t ∷ ts) =
      ap (λ b. given (admits a t.line pool.typ && b)
      (option_and_then (λ (out : ℕ). option_and_then (λ (rest : ℕ). Some (pool.fixed + pool.dead_rate * out + rest))
      (cost_from a pool t ts)) (pull_out a pool t))) (admitted_same pool ts)
      ∙ ap (λ c. given (all_admitted other pool (t ∷ ts))
      (option_and_then (λ (out : ℕ). option_and_then (λ (rest : ℕ). Some (pool.fixed + pool.dead_rate * out + rest)) c)
      (pull_out a pool t))) (cost_same pool t ts)
      ∙ ap (λ o. given (all_admitted other pool (t ∷ ts))
      (option_and_then (λ (out : ℕ). option_and_then (λ (rest : ℕ). Some (pool.fixed + pool.dead_rate * out + rest))
      (cost_from other pool t ts)) (pull_out_over t o))) (same pool.depot t.from)

  pub legs_same : (pool : Pool) (k : ℕ) (t : Trip) (list : List ℕ) → legs_from a pool k t list ≡ legs_from other pool k t list
  legs_same pool k t [] =
      ap (λ (o : Option ℕ). option_and_then
      (λ (inward : ℕ). Some (trip_leg k t ∷ leg PullIn None t.to t.end.0 pool.depot (t.end.0 +ℤ pos inward) ∷ [])) o) (same t.to pool.depot)
  legs_same pool k t (j ∷ js) =
      let rest_same : (λ (u : Trip). legs_from a pool j u js) ≡ (λ (u : Trip). legs_from other pool j u js) =
      fun_ext (λ u. legs_same pool j u js) in
      let links : (λ (u : Trip). link a pool t u) ≡ (λ (u : Trip). link other pool t u) = fun_ext (λ u. link_same pool t u) in
      let step : (Trip → Option (List Leg)) → (Trip → Option Link) → Option (List Leg) = λ rest between.
      option_and_then (λ (u : Trip). option_and_then
      (λ (l : Link). option_and_then (λ (ls : List Leg). Some ((trip_leg k t ∷ link_legs pool t u l) ++ ls)) (rest u)) (between u))
      (slice_get a.trips j) in
      ap (λ f. step f (λ (u : Trip). link a pool t u)) rest_same ∙ ap (λ f. step (λ (u : Trip). legs_from other pool j u js) f) links

  pub block_legs_same : (pool : Pool) (list : List ℕ) → legs_of a pool list ≡ legs_of other pool list
  block_legs_same pool [] = refl
  block_legs_same pool (k ∷ ks) =
      let rest_same : (λ (t : Trip). legs_from a pool k t ks) ≡ (λ (t : Trip). legs_from other pool k t ks) =
      fun_ext (λ t. legs_same pool k t ks) in
      let outs : (λ (t : Trip). pull_out a pool t) ≡ (λ (t : Trip). pull_out other pool t) =
      fun_ext (λ t. ap (λ o. pull_out_over t o) (same pool.depot t.from)) in
      let begin : (Trip → Option (List Leg)) → (Trip → Option ℕ) → Option (List Leg) = λ rest outward.
      option_and_then (λ (t : Trip). option_and_then
      (λ (out : ℕ). option_and_then
      (λ (ls : List Leg). Some (shown (leg PullOut None pool.depot (t.begin.0 -ℤ pos out) t.from t.begin.0 ∷ ls))) (rest t)) (outward t))
      (slice_get a.trips k) in
      ap (λ f. begin f (λ (t : Trip). pull_out a pool t)) rest_same ∙ ap (λ f. begin (λ (t : Trip). legs_from other pool k t ks) f) outs

  pub parts_same : (pool : Pool) (legs : List Leg) → parts a pool legs ≡ parts other pool legs
  parts_same pool [] = refl
  parts_same pool (l ∷ ls) = ap (λ rest. cond (is_cut a pool l) ([] ∷ rest) (onto_first l rest)) (parts_same pool ls)

  driven_same : (pool : Pool) (list : List ℕ) → can_be_driven a pool list ≡ can_be_driven other pool list
  driven_same pool list =
      let cuts : (λ (legs : List Leg). parts a pool legs) ≡ (λ (legs : List Leg). parts other pool legs) =
      fun_ext (λ legs. parts_same pool legs) in
      let test : Option (List Leg) → (List Leg → List (List Leg)) → Bool = λ legs cut.
      option_map_or (λ pieces. list_all may_be_driven pieces)
      (option_and_then (λ (ls : List Leg). Some (pieces_from 1 1 (cut ls))) legs) false in
      ap (λ o. test o (λ (legs : List Leg). parts a pool legs)) (block_legs_same pool list)
      ∙ ap (λ f. test (legs_of other pool list) f) cuts

  deads_same : (counts : Bool) → block_worth a counts ≡ block_worth other counts
  deads_same counts =
      let costs : block_cost a ≡ block_cost other = fun_ext (λ pool. fun_ext (λ ts. block_same pool ts)) in
      let driven : can_be_driven a ≡ can_be_driven other = fun_ext (λ pool. fun_ext (λ list. driven_same pool list)) in
      let worth : (Pool → List ℕ → Bool) → (Pool → List Trip → Option ℕ) → ℕ → List ℕ → Option ℕ = λ drive cost class list.
      given (rises list)
      (option_and_then (λ (pool : Pool). given (drive pool list)
      (option_and_then (λ (ts : List Trip). option_and_then (λ (c : ℕ). Some (cond counts 1 c)) (cost pool ts)) (trips_at a.trips list)))
      (slice_get a.params.pools class)) in
      ap (λ f. worth f (block_cost a)) driven ∙ ap (λ f. worth (can_be_driven other) f) costs

-- The worth of lists hangs on the trips, the settings and the times of deadheads alone. A day keeps these times as a list in some
-- order, and two days that were read alike may differ in it; what is asked of the list is only the time between two points. So the
-- lemma goes through all definitions that use such times, from connections to legs, pieces and costs, and replaces the question by
-- the other day's answer.
pub same_worth : (a b : DayFacts) (counts : Bool) → a.trips ≡ b.trips → a.params ≡ b.params → ((x y : Point) → dead a x y ≡ dead b x y) →
    block_worth a counts ≡ block_worth b counts
same_worth a b counts trips params same =
    let with : List Trip → ParamRows → DayFacts = λ t p. record { kind = a.kind; rows = a.rows; trips = t; params = p; deads = b.deads } in
    deads_same a b.deads same counts ∙ ap (λ t. block_worth (with t a.params) counts) trips
    ∙ ap (λ p. block_worth (with b.trips p) counts) params
