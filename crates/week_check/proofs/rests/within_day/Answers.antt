use Rattle.std.proofs.Common.{arith, SFits, w64}
use Rattle.std.proofs.lemmas.Int.{ints, clamps}
use Rattle.week_check.proofs.Lists.{small_times}
use Rattle.week_check.proofs.rests.within_day.Goals as goal

pub returns-then-most-gap : goal.returns-then-most-gap
returns-then-most-gap c =
    let times = small_times c.args.turn.now c.requires in
    let f : SFits w64 c.args.gap = c.ranges.gap in
    omega (arith, ints, clamps, times.0.low, times.0.high, times.1.low, times.1.high)

pub returns-else-most-gap : goal.returns-else-most-gap
returns-else-most-gap c =
    let times = small_times c.args.turn.now c.requires in
    let f : SFits w64 c.args.gap = c.ranges.gap in
    omega (arith, ints, clamps, times.0.low, times.0.high, times.1.low, times.1.high)
