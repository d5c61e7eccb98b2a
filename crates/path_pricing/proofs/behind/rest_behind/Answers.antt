use Rattle.std.proofs.Common.{◌≡◌, ◌<◌, ◌+◌, ◌∙◌, ℕ, ℤ, Some, ap, arith, length, rules, slice_get, subst, sym, to_z, of_z, w64}
use Rattle.std.proofs.lemmas.Int.{ints, to_z-of_z}
use Rattle.std.specs.Prelude.{FitsSigned, slice_index}
use Rattle.trip_times.specs.declared.trip.Trip.{Trip}
use Rattle.day_model.specs.Facts.{DayFacts}
use Rattle.depot_network.proofs.Bounds.{some_same}
use Rattle.path_pricing.specs.Blocks.{ClosesAbove}
use Rattle.path_pricing.specs.Points.{PointAbove, PointsAbove, passed_value, stood_value}
use Rattle.day_model.proofs.Following.{entry_read}
use Rattle.path_pricing.proofs.Cells.{have_heads}
use Rattle.path_pricing.proofs.Going.{points_more, points_none}
use Rattle.path_pricing.proofs.Places.{settled_closes, settled_steps}
use Rattle.path_pricing.proofs.behind.rest_behind.Goals as goal

pub loop-number-init : goal.loop-number-init
loop-number-init c =
    let net = c.args.net.now in
    let new : ℤ = c.with_pull_in-least.result in
    let fits : FitsSigned w64 new = search rules in
    let back : to_z w64 (of_z w64 new) ≡ new = to_z-of_z w64 new fits in
    let Closes : ℤ → Type 0 = λ z. ClosesAbove net.day net.counts c.args.pool.now c.args.t z in
    record {
      closes = subst Closes (sym back) c.with_pull_in-least.ensures.closes;
      high = omega (arith, ints, c.with_pull_in-least.ensures.high, back);
      points = points_none net.day net.counts c.args.prices.now c.args.pool.now c.args.rests.now c.args.numbers.now c.args.t _;
    }

-- One point more: the bound so far is lowered to what ways from the trip to this point add at least. All trips that begin there are
-- bounded by one look, through the point's head (`have_heads` finds it for each of them), and the bound still holds of the pull-in
-- and of the points before.
pub loop-number-preserved : goal.loop-number-preserved
loop-number-preserved c =
    let net = c.args.net.now in
    let day = net.day in
    let number = c.loop-number.number in
    let new : ℤ = c.with_point-least.result in
    let fits : FitsSigned w64 new = search rules in
    let back : to_z w64 (of_z w64 new) ≡ new = to_z-of_z w64 new fits in
    let low = c.with_point-least.ensures.low in
    let high = c.loop-number.invariant.high in
    let Closes : ℤ → Type 0 = λ z. ClosesAbove day net.counts c.args.pool.now c.args.t z in
    let Points : ℤ → Type 0 =
    λ z. PointsAbove day net.counts c.args.prices.now c.args.pool.now c.args.rests.now c.args.numbers.now c.args.t (number + 1) z in
    let closes : Closes new = λ cost e. (let old = c.loop-number.invariant.closes cost e in omega (arith, ints, old, low)) in
    let inside : number < length c.args.heads.now = search rules in
    let here : (u : ℕ) → c.args.t < u → u < length day.trips → slice_index c.args.numbers.now u ≡ number →
    PointAbove day net.counts c.args.pool.now c.args.numbers.now
    (stood_value day net.counts c.args.prices.now c.args.pool.now c.args.rests.now) (passed_value c.args.prices.now c.args.rests.now)
    c.args.t number new =
    λ u after there same.
    (let count = c.requires.numbers.count in
    let width = c.requires.count in
    let less = c.requires.below u there in
    let (within, own) = have_heads c.args.numbers.now c.args.heads.now u (omega (arith, there, count))
    (omega (arith, less, width)) c.requires.heads in
    let P : ℕ → Type 0 = λ n. slice_index c.args.heads.now n < length c.args.numbers.now in
    let Q : ℕ → Type 0 = λ n. slice_index c.args.numbers.now (slice_index c.args.heads.now n) ≡ n in
    let within' = subst P same within in
    let own' = subst Q same own in
    let read = entry_read c.args.heads.now number 0 inside in
    c.with_point-least.ensures.point c.args.numbers.now (stood_value day net.counts c.args.prices.now c.args.pool.now c.args.rests.now)
    (passed_value c.args.prices.now c.args.rests.now)
    (omega (arith, within', count, read)) c.requires.numbers (ap (slice_index c.args.numbers.now) read ∙ own')
    c.requires.stood c.requires.passed) in
    record {
      closes = subst Closes (sym back) closes;
      high = omega (arith, ints, low, high, back);
      points = subst Points (sym back)
          (points_more day net.counts c.args.prices.now c.args.pool.now c.args.rests.now c.args.numbers.now c.args.t number _ new
          (search rules) low here c.loop-number.invariant.points);
    }

pub returns-clause-closes : goal.returns-clause-closes
returns-clause-closes c =
    let net = c.args.net.now in
    let fits : FitsSigned w64 c.least_payable.result = search rules in
    rw (to_z-of_z w64 _ fits)
    (settled_closes net.day net.counts c.args.prices.now c.args.pool.now c.args.rests.now c.args.t _ c.least_payable.result
    (search (rules, c.least_payable.ensures.least)) c.loop-number.invariant.closes)

pub returns-clause-steps : goal.returns-clause-steps
returns-clause-steps c =
    let net = c.args.net.now in
    let fits : FitsSigned w64 c.least_payable.result = search rules in
    let least : ℤ = to_z w64 c.loop-number.least-bits in
    let end : c.loop-number.number ≡ c.args.width = search rules in
    let P : ℕ → Type 0 = λ n. PointsAbove net.day net.counts c.args.prices.now c.args.pool.now c.args.rests.now
    c.args.numbers.now c.args.t n least in
    rw (to_z-of_z w64 _ fits)
    (settled_steps net.day net.counts c.args.prices.now c.args.pool.now c.args.rests.now c.args.t c.args.width c.args.numbers.now least
    c.least_payable.result c.requires.moderate c.requires.below c.requires.deep
    (search (rules, c.least_payable.ensures.least)) (subst P end c.loop-number.invariant.points))

pub with_point-least-requires-clause-first : goal.with_point-least-requires-clause-first
with_point-least-requires-clause-first c = λ u trip next later at at' begins.
    let net = c.args.net.now in
    let shown = c.trip.result.now in
    let At : DayFacts → Type 0 = λ d. slice_get d.trips c.args.t ≡ Some shown in
    let is : slice_get net.day.trips c.args.t ≡ Some shown = subst At c.day-day.ensures c.trip.ensures.trip in
    let one : shown ≡ trip = some_same shown trip (sym is ∙ at) in
    let ends : shown.end.0 ≡ trip.end.0 = ap (λ (x : Trip). x.end.0) one in
    let is_end = c.end_of.ensures.value in
    let Day : DayFacts → Type 0 = λ d. slice_get d.trips u ≡ Some next in
    c.next_from-place.ensures.first u next later (subst Day (sym c.day-day.ensures) at') (omega (arith, ints, ends, is_end, begins))
