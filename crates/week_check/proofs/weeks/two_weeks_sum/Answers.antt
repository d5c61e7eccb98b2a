use Rattle.std.proofs.Common.{arith, SFits, w64}
use Rattle.std.proofs.lemmas.Int.{ints}
use Rattle.week_check.proofs.Lists.{sums_are}
use Rattle.week_check.proofs.weeks.two_weeks_sum.Goals as goal

pub returns-clause-value : goal.returns-clause-value
returns-clause-value c =
    let f : SFits w64 c.args.monday = c.ranges.monday in
    sums_are c.week_sum.result c.week_sum-2.result _ _ c.args.monday c.args.turns.now c.week_sum.ensures.value c.week_sum-2.ensures.value
    (omega (arith, ints)) (omega (arith, ints, c.requires.last))
