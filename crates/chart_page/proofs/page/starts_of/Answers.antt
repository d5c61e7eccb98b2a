use Rattle.std.proofs.Common.{◌+◌, arith}
use Rattle.chart_page.proofs.HourLemmas.{hours_all, hours_first, hours_more}
use Rattle.chart_page.proofs.page.starts_of.Goals as goal

pub loop-hour-init : goal.loop-hour-init
loop-hour-init c =
    rw c.new-starts.ensures.items
    (hours_first c.args.hours.first (c.args.hours.first + c.args.hours.count + 1) (c.args.hours.count + 1) (omega arith))

pub loop-hour-preserved : goal.loop-hour-preserved
loop-hour-preserved c =
    rw c.in_ok-push.ensures.items
    (hours_more c.loop-hour.starts.items _ c.loop-hour.hour (c.args.hours.first + c.args.hours.count + 1)
    (omega (arith, c.loop-hour-test.true)) c.loop-hour.invariant)

pub returns : goal.returns
returns c =
    hours_all c.loop-hour.starts.items _ c.loop-hour.hour (c.args.hours.first + c.args.hours.count + 1)
    (omega (arith, c.loop-hour-test.false)) c.loop-hour.invariant
