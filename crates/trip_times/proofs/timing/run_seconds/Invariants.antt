use Rattle.std.proofs.Common.{◌≡◌, ◌≤◌, drop}
use Rattle.vdv452_tables.specs.LookUps.{links_from}
use Rattle.trip_times.specs.Timing.{run_time_of}
use Rattle.trip_times.proofs.TimingLemmas.{runs_on}
use Rattle.trip_times.proofs.timing.run_seconds.Given as goal

-- What is left decides as the whole does: the run times so far, cut at 172801, with what is left added on top, give the same answer
-- as all run times from 0. A section without a run time is the answer wherever it stands, as it is the first one left when it is
-- met. Cutting at each step or at the end is the same, since a sum past the bound stays past it.
abbrev pub invariant-loop-to : goal.invariant-loop-to
invariant-loop-to l = record {
  within : l.seconds ≤ 172801;
  whole : runs_on (run_time_of l.net l.version l.area l.group) l.seconds (links_from l.from (drop l.to-index l.points))
      ≡ runs_on (run_time_of l.net l.version l.area l.group) 0 (links_from l.fn.first l.points);
}
