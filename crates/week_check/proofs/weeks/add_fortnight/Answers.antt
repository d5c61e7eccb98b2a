use Rattle.std.proofs.Common.{arith, ◌≡◌, pos, ◌+ℤ◌, to_z, w64, SFits, to_z-of_z}
use Rattle.std.proofs.lemmas.Int.{ints}
use Rattle.std.proofs.lemmas.Result.{on_ok_weaker}
use Rattle.week_check.specs.Days as days
use Rattle.week_check.proofs.Adding.{adds_same}
use Rattle.week_check.proofs.Lists.{fortnight_is}
use Rattle.week_check.proofs.weeks.add_fortnight.Goals as goal

pub returns : goal.returns
returns c =
    let from : days.number_of c.day_of.result ≡ c.args.monday = omega (arith, ints, c.day_of.ensures.number) in
    let to : days.number_of c.day_of-2.result ≡ c.args.monday +ℤ pos 13 = omega (arith, ints, c.day_of-2.ensures.number) in
    let value : to_z w64 c.two_weeks_sum-sum.result ≡ pos c.two_weeks_sum-sum.result =
    omega (arith, ints, c.two_weeks_sum-sum.ensures.bound) in
    let f : SFits w64 c.args.monday = c.ranges.monday in
    let sum = simp to_z-of_z at c.two_weeks_sum-sum.ensures.value in
    let past = simp to_z-of_z at c.is_past_fortnight.ensures in
    on_ok_weaker c.add.result
    (λ a. adds_same _ _ _ _ (fortnight_is c.args.driver c.args.monday c.args.turns.now _ _ c.two_weeks_sum-sum.result _ _ past from
    to sum value) a) c.add.ensures
