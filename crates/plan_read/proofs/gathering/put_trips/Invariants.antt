use Rattle.std.proofs.Common.{◌≡◌, drop}
use Rattle.plan_read.specs.Gathering.{with_trips}
use Rattle.plan_read.proofs.gathering.put_trips.Given as goal

-- once the trips that are left are put, all are
abbrev pub invariant-loop-entry : goal.invariant-loop-entry
invariant-loop-entry l = with_trips l.initial.lists l.entries ≡ with_trips l.lists (drop l.entry-index l.entries)
