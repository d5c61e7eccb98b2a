-- Promise: a list of trips that is a block is not empty, rises, and has trips of the day alone.
use Rattle.std.proofs.Common.{◌≡◌, ◌≢◌, ℕ, ◌<◌, true, cond, nat_lt, List, [], ◌∷◌, length, Option, Some, None, sym, subst, arith, slice_get}
use Rattle.std.specs.Prelude.{option_and_then}
use Rattle.std.proofs.lemmas.Bool.Decides.{nat_tests}
use Rattle.std.proofs.lemmas.Option.{slice_get_within, same_Some}
use Rattle.std.proofs.lemmas.Bool.{and_parts}
use Rattle.plan_core.proofs.Options.{and_then_some, given_some}
use Rattle.cover_core.specs.Cover.{AllBelow, Rises}
use Rattle.cover_core.specs.Plans.{HasListedColumns}
use Rattle.trip_times.specs.declared.trip.Trip.{Trip}
use Rattle.plan_params.specs.declared.rows.pool.Pool.{Pool}
use Rattle.day_model.specs.Facts.{DayFacts}
use Rattle.day_model.specs.Links.{given}
use Rattle.day_model.specs.Blocks.{block_cost, rises, trips_at}
use Rattle.day_model.specs.Pieces.{can_be_driven}
use Rattle.depot_network.specs.Network.{NetFacts, blocks}

pub rises_rise : (list : List ℕ) → rises list ≡ true → Rises list
rises_rise [] e = tt
rises_rise (x ∷ []) e = tt
rises_rise (x ∷ y ∷ rest) e =
    let parts = and_parts (nat_lt x y) (rises (y ∷ rest)) e in
    let test : nat_lt x y ≡ true = parts.0 in
    let below : x < y = grind (arith, nat_tests) in
    (below, rises_rise (y ∷ rest) parts.1)

pub trips_below : (trips : List Trip) (list : List ℕ) (found : List Trip) → trips_at trips list ≡ Some found → AllBelow (length trips) list
trips_below trips [] found e = tt
trips_below trips (k ∷ ks) found e =
    let first = and_then_some (λ (t : Trip). option_and_then (λ (ts : List Trip). Some (t ∷ ts)) (trips_at trips ks))
    (slice_get trips k) found e in
    let rest = and_then_some (λ (ts : List Trip). Some (first.0 ∷ ts)) (trips_at trips ks) found first.2 in
    (slice_get_within trips k first.0 first.1, trips_below trips ks rest.0 rest.1)

pub none_of_none : (day : DayFacts) (pool : Pool) (list : List ℕ) (found : List Trip) (cost : ℕ) → trips_at day.trips list ≡ Some found →
    block_cost day pool found ≡ Some cost → list ≢ []
none_of_none day pool list found cost at is = λ e.
    let P : List ℕ → Type 0 = λ ks. trips_at day.trips ks ≡ Some found in
    let none : found ≡ [] = sym (same_Some [] found (subst P e at)) in
    let Q : List Trip → Type 0 = λ ts. block_cost day pool ts ≡ Some cost in
    let bad : None ≡ Some cost = subst Q none is in
    cc

pub blocks_listed : (net : NetFacts) → HasListedColumns (blocks net)
blocks_listed net class list worth e =
    let one : ℕ → Option ℕ = λ c. Some (cond net.counts 1 c) in
    let of_trips : Pool → Option ℕ =
    λ pool. option_and_then (λ (ts : List Trip). option_and_then one (block_cost net.day pool ts)) (trips_at net.day.trips list) in
    let tested = given_some (rises list)
    (option_and_then (λ (pool : Pool). given (can_be_driven net.day pool list) (of_trips pool)) (slice_get net.day.params.pools class))
    worth e in
    let pooled = and_then_some (λ (pool : Pool). given (can_be_driven net.day pool list) (of_trips pool))
    (slice_get net.day.params.pools class) worth tested.1 in
    let driven = given_some (can_be_driven net.day pooled.0 list) (of_trips pooled.0) worth pooled.2 in
    let found = and_then_some (λ (ts : List Trip). option_and_then one (block_cost net.day pooled.0 ts))
    (trips_at net.day.trips list) worth driven.1 in
    let costs = and_then_some one (block_cost net.day pooled.0 found.0) worth found.2 in (
      none_of_none net.day pooled.0 list found.0 costs.0 found.1 costs.1,
      rises_rise list tested.0,
      trips_below net.day.trips list found.0 found.1,
    )
