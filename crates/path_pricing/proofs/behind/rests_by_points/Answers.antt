use Rattle.std.proofs.Common.{◌≡◌, ◌<◌, ◌≤◌, ◌-ℤ◌, ◌+ℤ◌, ◌+◌, ◌-◌, ◌*◌, ◌∙◌, ℕ, ℤ, List, Some, ap, arith, length, mul-le-mul, rules, slice_get, slice_set, subst, sym, to_z, of_z, w64}
use Rattle.std.proofs.lemmas.Int.{ints, to_z-of_z}
use Rattle.std.specs.Prelude.{FitsSigned}
use Rattle.std.specs.Int.RustNames.{unsigned_abs}
use Rattle.day_model.specs.Facts.{DayFacts}
use Rattle.cover_core.specs.Plans.{price_at}
use Rattle.depot_network.specs.Open.{scaled}
use Rattle.path_pricing.specs.Blocks.{AreBoundsFrom, StepsAbove}
use Rattle.path_pricing.specs.Points.{passed_value, stand_rate_at, stood_value}
use Rattle.path_pricing.specs.Rows.{AreBelow, AreRows}
use Rattle.day_model.proofs.Following.{entry_read}
use Rattle.path_pricing.proofs.Cells.{base_more, room_two, rows_more, set_length}
use Rattle.path_pricing.proofs.Places.{own_passed, own_stood, passed_same, rests_end, rests_set, stood_same}
use Rattle.path_pricing.proofs.behind.rests_by_points.Goals as goal

pub loop-t-init : goal.loop-t-init
loop-t-init c =
    let net = c.args.net.now in
    let all : length c.trips-count.result.now ≡ length net.day.trips = search rules in
    let long : length c.in_ok-rests.rests.items ≡ length net.day.trips = search rules in
    let From : ℕ → Type 0 = λ t. AreBoundsFrom net.day net.counts c.args.prices.now c.args.pool.now c.in_ok-rests.rests.items t in
    record {
      from = omega (arith, all, c.requires.from);
      within = omega (arith, all);
      count = long;
      base = search rules;
      stood_size = search rules;
      passed_size = search rules;
      stood_moderate = search rules;
      passed_moderate = search rules;
      stood_rows = λ j u from up end. absurd (omega (arith, all, from, up, end));
      passed_rows = λ j u from up end. absurd (omega (arith, all, from, up, end));
      made = subst From (sym all) (rests_end net.day net.counts c.args.prices.now c.args.pool.now c.in_ok-rests.rests.items long);
    }

-- One trip more, from the last one back. Three things are carried along: the rests of the trips from here on are bounds, and two
-- tables have, for each of these trips and each point, the least of what trips from there on give that begin at the point, with
-- standing from midnight and without. The new rest was found by the tables of the later trips; it is put in (`rests_set`), and then
-- a row is added to each table (`rows_more`), by the values that the trip itself gives. Values of later trips do not change with the
-- new rest, so older rows stay right.
pub loop-t-preserved : goal.loop-t-preserved
loop-t-preserved c =
    let net = c.args.net.now in
    let day = net.day in
    let count : ℕ = length day.trips in
    let items : List ℤ = c.loop-t.rests.items in
    let k : ℕ = c.loop-t.t - 1 in
    let width : ℕ = length c.args.departures.firsts.now in
    let numbers : List ℕ = c.args.departures.numbers.now in
    let prices = c.args.prices.now in
    let pool = c.args.pool.now in
    let new : ℤ = c.rest_behind-rest.result in
    let fits : FitsSigned w64 new = search rules in
    let back : to_z w64 (of_z w64 new) ≡ new = to_z-of_z w64 new fits in
    let i = c.loop-t.invariant in
    let within = i.within in
    let same : c.loop-t.t ≡ k + 1 = omega (arith, c.loop-t-test.true) in
    let there : k < count = omega (arith, same, within) in
    let long = i.count in
    let inside : k < length items = omega (arith, long, there) in
    let base : c.loop-t.base ≡ (count - (k + 1)) * width =
    let P : ℕ → Type 0 = λ n. c.loop-t.base ≡ (count - n) * width in subst P same i.base in
    let value : ℤ = c.less_price-value.result in
    let until : ℤ = c.charge-until.result in
    let stood : ℤ = c.with_cost.result in
    let value_is : value ≡ new -ℤ price_at prices k = omega (arith, ints, c.less_price-value.ensures.value, c.price.ensures.value, back) in
    let trip = c.trip-trip.result.now in
    let At : DayFacts → Type 0 = λ d. slice_get d.trips k ≡ Some trip in
    let at : slice_get day.trips k ≡ Some trip = subst At c.day-day.ensures c.trip-trip.ensures.trip in
    let until_is : until ≡ scaled net.counts (stand_rate_at pool trip * unsigned_abs trip.begin.0) =
    c.charge-until.ensures.value ∙ ap (λ b. scaled b (c.stand_rate.result * c.begin_of.result)) c.counts.ensures
    ∙ ap (λ n. scaled net.counts (n * c.begin_of.result)) c.stand_rate.ensures.value
    ∙ ap (λ n. scaled net.counts (stand_rate_at pool trip * n)) c.begin_of.ensures.value in
    let many : length numbers ≡ count = search rules in
    let stood_is : stood ≡ value +ℤ until = omega (arith, ints, c.with_cost.ensures.value) in
    let below : AreBelow width numbers count = λ u inside. c.requires.departures.below u (omega (arith, many, inside)) in
    let From : ℕ → Type 0 = λ t. AreBoundsFrom day net.counts prices pool items t in
    let Steps : List ℤ → Type 0 = λ l. StepsAbove day net.counts prices pool l k count new in
    let Set : ℤ → Type 0 = λ z. AreBoundsFrom day net.counts prices pool (slice_set items k z) k in
    let StoodTo : ℕ → Type 0 = λ t. AreRows count width t numbers (stood_value day net.counts prices pool items) c.loop-t.stood.items in
    let PassedTo : ℕ → Type 0 = λ t. AreRows count width t numbers (passed_value prices items) c.loop-t.passed.items in
    let StoodSet : ℤ → Type 0 =
    λ z. AreRows count width k numbers (stood_value day net.counts prices pool (slice_set items k z)) c.add_row.new.cells.items in
    let PassedSet : ℤ → Type 0 =
    λ z. AreRows count width k numbers (passed_value prices (slice_set items k z)) c.add_row-in-loop-t.new.cells.items in
    record {
      from = omega (arith, same, c.loop-t-test.true);
      within = omega (arith, within);
      count = set_length items k (to_z w64 (of_z w64 new)) ∙ long;
      base = base_more count k width c.loop-t.base there base;
      stood_size = c.add_row.ensures.count ∙ i.stood_size;
      passed_size = c.add_row-in-loop-t.ensures.count ∙ i.passed_size;
      stood_moderate = c.add_row.ensures.moderate i.stood_moderate
          (let fits = c.with_cost.ensures.moderate in let low = fits.low in let high = fits.high in
          record { low = omega (arith, ints, low); high = omega (arith, ints, high) });
      passed_moderate = c.add_row-in-loop-t.ensures.moderate i.passed_moderate
          (record {
            low = omega (arith, ints, c.less_price-value.ensures.low);
            high = omega (arith, ints, c.less_price-value.ensures.high);
          });
      stood_rows = subst StoodSet (sym back)
          (rows_more c.loop-t.stood.items c.add_row.new.cells.items count width c.loop-t.base k numbers
          (stood_value day net.counts prices pool items)
          (stood_value day net.counts prices pool (slice_set items k new)) stood there base below
          (λ u later. stood_same day net.counts prices pool items k u new later)
          (own_stood day net.counts prices pool items k trip new value until stood inside at value_is until_is stood_is)
          (search (rules, c.add_row.ensures)) (subst StoodTo same i.stood_rows));
      passed_rows = subst PassedSet (sym back)
          (rows_more c.loop-t.passed.items c.add_row-in-loop-t.new.cells.items count width c.loop-t.base k
          numbers (passed_value prices items)
          (passed_value prices (slice_set items k new)) value there base below
          (λ u later. passed_same day net.counts prices pool items k u new later)
          (own_passed day net.counts prices pool items k new value inside value_is)
          (search (rules, c.add_row-in-loop-t.ensures)) (subst PassedTo same i.passed_rows));
      made = subst Set (sym back) (rests_set day net.counts prices pool items k new inside c.rest_behind-rest.ensures.closes
          (subst Steps c.as_slice.ensures.value c.rest_behind-rest.ensures.steps) c.rest_behind-rest.ensures.deep (subst From same i.made));
    }

pub returns : goal.returns
returns c =
    let net = c.args.net.now in
    let end : c.loop-t.t ≡ c.args.from = omega (arith, c.loop-t-test.false, c.loop-t.invariant.from) in
    let From : ℕ → Type 0 = λ t. AreBoundsFrom net.day net.counts c.args.prices.now c.args.pool.now c.loop-t.rests.items t in
    subst From end c.loop-t.invariant.made

pub overflow_mul-size : goal.overflow_mul-size
overflow_mul-size c =
    let few : length c.trips-count.result.now - c.args.from + 1 ≤ 3001 = omega (arith, c.trips-count.ensures.few) in
    let more = mul-le-mul few c.requires.few in
    omega (arith, more)

pub less_price-value-requires-clause-rest_low : goal.less_price-value-requires-clause-rest_low
less_price-value-requires-clause-rest_low c =
    let low = c.rest_behind-rest.ensures.deep.low in
    let few : length c.args.net.now.day.trips ≤ 3000 = search rules in
    let fits : FitsSigned w64 c.rest_behind-rest.result = search rules in
    let back = to_z-of_z w64 c.rest_behind-rest.result fits in
    omega (arith, ints, low, few, back)

pub add_row-requires-clause-number : goal.add_row-requires-clause-number
add_row-requires-clause-number c =
    let count : ℕ = length c.args.net.now.day.trips in
    let k : ℕ = c.loop-t.t - 1 in
    let numbers : List ℕ = c.args.departures.numbers.now in
    let many : length numbers ≡ count = search rules in
    let there : k < length numbers = omega (arith, many, c.loop-t.invariant.within, c.loop-t-test.true) in
    let read = entry_read numbers k 0 there in
    let below = c.requires.departures.below k there in
    omega (arith, read, below)

pub add_row-requires-in-loop-t-clause-number : goal.add_row-requires-in-loop-t-clause-number
add_row-requires-in-loop-t-clause-number c =
    let count : ℕ = length c.args.net.now.day.trips in
    let k : ℕ = c.loop-t.t - 1 in
    let numbers : List ℕ = c.args.departures.numbers.now in
    let many : length numbers ≡ count = search rules in
    let there : k < length numbers = omega (arith, many, c.loop-t.invariant.within, c.loop-t-test.true) in
    let read = entry_read numbers k 0 there in
    let below = c.requires.departures.below k there in
    omega (arith, read, below)

pub add_row-requires-in-loop-t-clause-room : goal.add_row-requires-in-loop-t-clause-room
add_row-requires-in-loop-t-clause-room c =
    let count : ℕ = length c.args.net.now.day.trips in
    let k : ℕ = c.loop-t.t - 1 in
    let width : ℕ = length c.args.departures.firsts.now in
    let same : c.loop-t.t ≡ k + 1 = omega (arith, c.loop-t-test.true) in
    let there : k < count = omega (arith, same, c.loop-t.invariant.within) in
    let behind : c.args.from ≤ k = omega (arith, same, c.loop-t-test.true) in
    let At : ℕ → Type 0 = λ n. c.loop-t.base ≡ (count - n) * width in
    room_two count c.args.from k width c.loop-t.base _ behind there (subst At same c.loop-t.invariant.base) c.loop-t.invariant.passed_size
