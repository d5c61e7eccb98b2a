use Rattle.std.proofs.Common.{◌≡◌, arith, of_z, sym, subst, to_z, w64}
use Rattle.std.proofs.lemmas.Int.{ints}
use Rattle.week_check.specs.Days.{IsDutyDay}
use Rattle.week_check.proofs.Entries.{all_right, moment_is, right_day, turn_made, wider}
use Rattle.week_check.proofs.entry.turn_of.Goals as goal

pub moment-requires-clause-day : goal.moment-requires-clause-day
moment-requires-clause-day c =
    subst IsDutyDay (sym c.word-day.ensures) (right_day c.args.entry.now.day (all_right c.args.entry.now c.requires).day)

pub moment-requires-2-clause-day : goal.moment-requires-2-clause-day
moment-requires-2-clause-day c =
    subst IsDutyDay (sym c.word-day.ensures) (right_day c.args.entry.now.day (all_right c.args.entry.now c.requires).day)

pub word-requires-2 : goal.word-requires-2
word-requires-2 c = wider c.args.entry.now.driving (all_right c.args.entry.now c.requires).driving

pub returns : goal.returns
returns c =
    let e = c.args.entry.now in
    let a : to_z w64 (of_z w64 c.moment.result) ≡ c.moment.result = omega (arith, ints) in
    let b : to_z w64 (of_z w64 c.moment-2.result) ≡ c.moment-2.result = omega (arith, ints) in
    let begin = moment_is (to_z w64 (of_z w64 c.moment.result)) c.moment.result c.word-day.result _ _ _ a c.moment.ensures
    c.word-day.ensures (omega (arith, ints, c.value.ensures)) in
    let end = moment_is (to_z w64 (of_z w64 c.moment-2.result)) c.moment-2.result c.word-day.result _ _ _ b c.moment-2.ensures
    c.word-day.ensures (omega (arith, ints, c.value-2.ensures)) in
    turn_made c.args.entry.now c.word.result c.word-day.result _ _ c.word-2.result c.is_one.result c.word.ensures c.word-day.ensures begin
    end c.word-2.ensures c.is_one.ensures
