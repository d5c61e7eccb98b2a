use Rattle.std.proofs.Common.{◌≡◌, ◌≤◌, drop, min}
use Rattle.trip_times.specs.Timing.{dwell_at, dwell_seconds_of}
use Rattle.trip_times.proofs.TimingLemmas.{sum_on}
use Rattle.trip_times.proofs.timing.dwell_seconds.Given as goal

-- the seconds so far and what is left make the whole
abbrev pub invariant-loop-at : goal.invariant-loop-at
invariant-loop-at l = record {
  within : l.seconds ≤ 172801;
  whole : min (sum_on (dwell_at l.net l.version l.row) l.seconds (drop l.at-index l.points)) 172801
      ≡ min (dwell_seconds_of l.net l.version l.row l.points) 172801;
}
