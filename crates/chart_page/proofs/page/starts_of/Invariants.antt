use Rattle.std.proofs.Common.{◌≡◌, ◌+◌, ◌-◌, ◌++◌}
use Rattle.std.specs.List.{range_with_len}
use Rattle.chart_page.proofs.page.starts_of.Given as goal

-- the hours so far and those that are left are all
abbrev pub invariant-loop-hour : goal.invariant-loop-hour
invariant-loop-hour l =
    l.starts.items ++ range_with_len l.hour (l.hour-end - l.hour) ≡ range_with_len l.fn.hours.first (l.fn.hours.count + 1)
