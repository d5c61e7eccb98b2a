use Rattle.std.proofs.Common.{◌≡◌, ◌≤◌, ◌<◌, ◌+◌, ◌*◌, ◌+ℤ◌, ◌≤ℤ◌, ◌-◌, ◌⊎◌, ap, arith, inl, inr, length, pos, rules, slice_get, sym, subst, w64, ℕ, None, Some}
use Rattle.std.proofs.lemmas.Int.{ints, to_z-of_z}
use Rattle.std.specs.Prelude.{FitsSigned}
use Rattle.trip_times.specs.declared.trip.Trip.{Trip}
use Rattle.cover_core.specs.Plans.{number_at}
use Rattle.depot_network.specs.Open.{scaled}
use Rattle.day_model.specs.Facts.{dead}
use Rattle.day_model.specs.Links.{pull_in_at, with_pool, with_trip}
use Rattle.path_pricing.proofs.Cells.{room_for, row_at}
use Rattle.path_pricing.proofs.Going.{by_depot_none, by_depot_some, depot_above, depot_none, inward_at, outward_at, there}
use Rattle.path_pricing.proofs.points.with_depot.Goals as goal

pub cell_from-behind-requires-clause-room : goal.cell_from-behind-requires-clause-room
cell_from-behind-requires-clause-room c =
    let count = length c.args.day.now.trips in
    let all : length c.trips.result.now ≡ count = search rules in
    let P : ℕ → Type 0 = λ n. (n - c.next_from-place.result) * c.args.width + c.args.width ≤ length c.args.passed.now in
    subst P (sym all) (room_for count c.args.t c.next_from-place.result c.args.width (length c.args.passed.now)
    c.next_from-place.ensures.after c.next_from-place.ensures.within c.requires.room)

pub returns-in-Some-clause-depot : goal.returns-in-Some-clause-depot
returns-in-Some-clause-depot c = λ numbers value are own rows.
    let day = c.args.day.now in
    let pool = c.args.pool.now in
    let count = length day.trips in
    let place = c.next_from-place.result in
    let shown = c.trip-trip.result.now in
    let fits : FitsSigned w64 c.lower.result = search rules in
    let (inward, outward, is_in, is_out, same) =
    by_depot_some (pull_in_at day c.args.class c.args.t)
    (with_pool day c.args.class (λ pool. with_trip day c.args.head (λ next. dead day pool.depot next.from))) c.in-Some.dead
    (sym c.in-Some.ensures.value) in
    let (other, at_other) = there day.trips c.args.head c.requires.head in
    let cost : scaled c.args.counts (pool.dead_rate * c.in-Some.dead) ≡ scaled c.args.counts (pool.dead_rate * (inward + outward)) =
    ap (λ n. scaled c.args.counts (pool.dead_rate * n)) (sym same) in
    let back_0 = to_z-of_z w64 c.with_difference.result (search rules) in
    let back_1 = to_z-of_z w64 c.charge-moved.result (search rules) in
    let back_2 = to_z-of_z w64 c.cell_from-behind.result (search rules) in
    let all : length c.trips.result.now ≡ count = search rules in
    let N : ℕ → Type 0 = λ n. c.cell_from-behind.result ≡ number_at c.args.passed.now ((n - place) * c.args.width + c.args.number) in
    let cell_is = subst N all c.cell_from-behind.ensures in
    let low : c.lower.result ≤ℤ
    (scaled c.args.counts (pool.dead_rate * (inward + outward))
    +ℤ number_at c.args.passed.now ((count - place) * c.args.width + c.args.number)) =
    omega (
      arith,
      ints,
      cost,
      c.lower.ensures.second,
      c.with_difference.ensures,
      c.charge-moved.ensures.value,
      cell_is,
      back_0,
      back_1,
      back_2,
    ) in
    let behind : c.args.t + 1 ≤ place = omega (arith, c.next_from-place.ensures.after) in
    let dead_is : inward + outward ≡ c.in-Some.dead = same in
    let ends = c.end_of.ensures.value in
    let first : (u : ℕ) (trip : Trip) → c.args.t < u → slice_get day.trips u ≡ Some trip →
    (shown.end.0 +ℤ pos (inward + outward)) ≤ℤ trip.begin.0 → place ≤ u =
    λ u trip later at late. c.next_from-place.ensures.first u trip later at (omega (arith, ints, late, dead_is, ends)) in
    rw (to_z-of_z w64 _ fits)
    (depot_above day c.args.counts pool numbers value c.args.passed.now c.args.width c.args.number c.args.t c.args.head place inward
    outward shown other c.lower.result
    c.trip-trip.ensures.trip at_other
    (inward_at day c.args.class c.args.t pool shown (Some inward) c.requires.there c.trip-trip.ensures.trip (sym is_in))
    (outward_at day c.args.class c.args.head pool other (Some outward) c.requires.there at_other (sym is_out))
    c.next_from-place.ensures.after
    first low
    (row_at count c.args.width (c.args.t + 1) place c.args.number numbers value c.args.passed.now behind rows) are own)

pub returns-in-None-clause-depot : goal.returns-in-None-clause-depot
returns-in-None-clause-depot c = λ numbers value are own rows.
    let day = c.args.day.now in
    let pool = c.args.pool.now in
    let (shown, at) = there day.trips c.args.t c.requires.trip in
    let (other, at') = there day.trips c.args.head c.requires.head in
    let none : (dead day shown.to pool.depot ≡ None) ⊎ (dead day pool.depot other.from ≡ None) =
    elim (by_depot_none (pull_in_at day c.args.class c.args.t)
    (with_pool day c.args.class (λ pool. with_trip day c.args.head (λ next. dead day pool.depot next.from)))
    (sym c.in-None.ensures.value)) [
      | inl e ↦ inl (inward_at day c.args.class c.args.t pool shown None c.requires.there at (sym e))
      | inr e ↦ inr (outward_at day c.args.class c.args.head pool other None c.requires.there at' (sym e))
    ] in
    depot_none day c.args.counts pool numbers value c.args.number c.args.t c.args.head shown other _ at at' none are own
