use Rattle.std.proofs.Common.{◌≡◌, ◌*◌, ◌+◌, ℕ, arith, pos, rules, subst}
use Rattle.std.proofs.lemmas.Int.{ints}
use Rattle.day_model.specs.Begins.{AreMinutes}
use Rattle.day_model.proofs.Following.{first_later, minutes_more}
use Rattle.day_model.proofs.departures.minutes_of.Goals as goal

pub loop-minute-preserved : goal.loop-minute-preserved
loop-minute-preserved c =
    let trips = c.args.trips.now in
    let minute = c.loop-minute.minute in
    let first = c.past-trip.ensures.first in
    record {
      within = c.past-trip.ensures.within;
      first = first_later trips (pos (60 * minute)) (pos (60 * (minute + 1))) c.past-trip.result (omega (arith, ints)) first;
      so_far = minutes_more trips c.loop-minute.minutes.items minute c.past-trip.result c.loop-minute-test.true c.past-trip.ensures.within
          first c.loop-minute.invariant.so_far;
    }

pub returns : goal.returns
returns c =
    let end : c.loop-minute.minute ≡ 2881 = search rules in
    let P : ℕ → Type 0 = λ n. AreMinutes c.args.trips.now n c.loop-minute.minutes.items in
    search (rules, subst P end c.loop-minute.invariant.so_far)
