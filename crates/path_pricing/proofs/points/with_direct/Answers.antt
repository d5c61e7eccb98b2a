use Rattle.std.proofs.Common.{◌≡◌, ◌≤◌, ◌+◌, ◌*◌, ◌+ℤ◌, ◌-ℤ◌, ◌≤ℤ◌, ◌-◌, ap, arith, length, rules, subst, sym, w64, ℕ, None}
use Rattle.std.proofs.lemmas.Int.{ints, to_z-of_z}
use Rattle.std.specs.Prelude.{FitsSigned}
use Rattle.cover_core.specs.Plans.{number_at}
use Rattle.depot_network.specs.Open.{scaled}
use Rattle.path_pricing.specs.Points.{stand_rate_at}
use Rattle.path_pricing.proofs.Cells.{room_for, row_at}
use Rattle.path_pricing.proofs.Going.{between_at, direct_above, direct_none, there}
use Rattle.path_pricing.proofs.points.with_direct.Goals as goal

pub cell_from-behind-requires-clause-room : goal.cell_from-behind-requires-clause-room
cell_from-behind-requires-clause-room c =
    let count = length c.args.day.now.trips in
    let all : length c.trips.result.now ≡ count = search rules in
    let P : ℕ → Type 0 = λ n. (n - c.next_from-place.result) * c.args.width + c.args.width ≤ length c.args.stood.now in
    subst P (sym all) (room_for count c.args.t c.next_from-place.result c.args.width (length c.args.stood.now)
    c.next_from-place.ensures.after c.next_from-place.ensures.within c.requires.room)

pub returns-in-Some-clause-direct : goal.returns-in-Some-clause-direct
returns-in-Some-clause-direct c = λ numbers value are own rows.
    let day = c.args.day.now in
    let count = length day.trips in
    let place = c.next_from-place.result in
    let shown = c.trip-trip.result.now in
    let other = c.trip-next.result.now in
    let time = c.end_of.result + c.in-Some.dead in
    let fits : FitsSigned w64 c.lower.result = search rules in
    let rate : scaled c.args.counts (c.stand_rate.result * time) ≡ scaled c.args.counts (stand_rate_at c.args.pool.now other * time) =
    ap (λ n. scaled c.args.counts (n * time)) c.stand_rate.ensures.value in
    let back_0 = to_z-of_z w64 c.with_difference.result (search rules) in
    let back_1 = to_z-of_z w64 c.charge-moved.result (search rules) in
    let back_2 = to_z-of_z w64 c.charge-before.result (search rules) in
    let back_3 = to_z-of_z w64 c.cell_from-behind.result (search rules) in
    let turn : c.settings.result.turn ≡ day.params.settings.turn = search rules in
    let all : length c.trips.result.now ≡ count = search rules in
    let N : ℕ → Type 0 = λ n. c.cell_from-behind.result ≡ number_at c.args.stood.now ((n - place) * c.args.width + c.args.number) in
    let cell_is = subst N all c.cell_from-behind.ensures in
    let low : c.lower.result ≤ℤ
    (scaled c.args.counts (c.args.pool.now.dead_rate * c.in-Some.dead) -ℤ scaled c.args.counts (stand_rate_at c.args.pool.now other * time)
    +ℤ number_at c.args.stood.now ((count - place) * c.args.width + c.args.number)) =
    omega (
      arith,
      ints,
      rate,
      c.lower.ensures.second,
      c.with_difference.ensures,
      c.charge-moved.ensures.value,
      c.charge-before.ensures.value,
      cell_is,
      back_0,
      back_1,
      back_2,
      back_3,
    ) in
    let behind : c.args.t + 1 ≤ place = omega (arith, c.next_from-place.ensures.after) in
    rw (to_z-of_z w64 _ fits)
    (direct_above day c.args.counts c.args.pool.now numbers value c.args.stood.now c.args.width c.args.number c.args.t c.args.head place
    c.in-Some.dead time shown other c.lower.result
    c.trip-trip.ensures.trip c.trip-next.ensures.trip
    (between_at day c.args.t c.args.head shown other _ c.trip-trip.ensures.trip c.trip-next.ensures.trip c.in-Some.ensures.value)
    (omega (arith, ints, c.end_of.ensures.value)) c.next_from-place.ensures.after
    (λ u trip later at late. c.next_from-place.ensures.first u trip later at (omega (arith, ints, late, turn))) low
    (row_at count c.args.width (c.args.t + 1) place c.args.number numbers value c.args.stood.now behind rows) are own)

pub returns-in-None-clause-direct : goal.returns-in-None-clause-direct
returns-in-None-clause-direct c = λ numbers value are own rows.
    let day = c.args.day.now in
    let (shown, at) = there day.trips c.args.t c.requires.trip in
    let (other, at') = there day.trips c.args.head c.requires.head in
    direct_none day c.args.counts c.args.pool.now numbers value c.args.number c.args.t c.args.head shown other _ at at'
    (between_at day c.args.t c.args.head shown other None at at' c.in-None.ensures.value) are own
