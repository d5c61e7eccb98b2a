-- Inner: blocks that are counted are those that have costs, each worth 1.
use Rattle.std.proofs.Common.{◌≡◌, ℕ, Bool, true, false, cond, List, Option, Some, None, refl, slice_get}
use Rattle.std.specs.Prelude.{option_and_then}
use Rattle.cover_core.specs.Laws.{IsCountOf}
use Rattle.trip_times.specs.declared.trip.Trip.{Trip}
use Rattle.plan_params.specs.declared.rows.pool.Pool.{Pool}
use Rattle.day_model.specs.Facts.{DayFacts}
use Rattle.day_model.specs.Links.{given}
use Rattle.day_model.specs.Blocks.{block_cost, rises, trips_at}
use Rattle.day_model.specs.Pieces.{can_be_driven}
use Rattle.depot_network.specs.Network.{blocks_of}

abbrev worth_of_cost : Bool → ℕ → Option ℕ
worth_of_cost counts cost = Some (cond counts 1 cost)

abbrev worth_of_trips : DayFacts → Bool → Pool → List Trip → Option ℕ
worth_of_trips day counts pool trips = option_and_then (worth_of_cost counts) (block_cost day pool trips)

abbrev worth_in_pool : DayFacts → Bool → List ℕ → Pool → Option ℕ
worth_in_pool day counts list pool =
    given (can_be_driven day pool list) (option_and_then (worth_of_trips day counts pool) (trips_at day.trips list))

one_given : (b : Bool) (costed counted : Option ℕ) (worth : ℕ) → (costed ≡ Some worth → counted ≡ Some 1) → given b costed ≡ Some worth →
    given b counted ≡ Some 1
one_given true costed counted worth f h = f h
one_given false costed counted worth f h = absurd (cc)

one_cost : (o : Option ℕ) (worth : ℕ) → option_and_then (worth_of_cost false) o ≡ Some worth →
    option_and_then (worth_of_cost true) o ≡ Some 1
one_cost None worth h = absurd (cc)
one_cost (Some c) worth h = refl

one_trips : (day : DayFacts) (pool : Pool) (o : Option (List Trip)) (worth : ℕ) →
    option_and_then (worth_of_trips day false pool) o ≡ Some worth → option_and_then (worth_of_trips day true pool) o ≡ Some 1
one_trips day pool None worth h = absurd (cc)
one_trips day pool (Some trips) worth h = one_cost (block_cost day pool trips) worth h

one_pool : (day : DayFacts) (list : List ℕ) (o : Option Pool) (worth : ℕ) →
    option_and_then (worth_in_pool day false list) o ≡ Some worth → option_and_then (worth_in_pool day true list) o ≡ Some 1
one_pool day list None worth h = absurd (cc)
one_pool day list (Some pool) worth h =
    let trips = trips_at day.trips list in
    one_given (can_be_driven day pool list) (option_and_then (worth_of_trips day false pool) trips)
    (option_and_then (worth_of_trips day true pool) trips) worth (one_trips day pool trips worth) h

-- The trips and the caps are the same, and a list that costs something is counted once.
pub blocks_counted : (day : DayFacts) → IsCountOf (blocks_of day false) (blocks_of day true)
blocks_counted day = record {
  items = refl;
  caps = refl;
  one = λ class list worth h.
      let pool = slice_get day.params.pools class in
      one_given (rises list) (option_and_then (worth_in_pool day false list) pool) (option_and_then (worth_in_pool day true list) pool)
      worth (one_pool day list pool worth) h;
}
