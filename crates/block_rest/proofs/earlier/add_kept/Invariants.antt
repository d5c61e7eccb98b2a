use Rattle.std.proofs.Common.{◌≡◌, ◌++◌, ◌<◌, drop, length}
use Rattle.block_rest.specs.Heads as spec
use Rattle.block_rest.proofs.earlier.add_kept.Given as goal

abbrev pub invariant-loop-next : goal.invariant-loop-next
invariant-loop-next l = record {
  there : l.last < length l.day.trips;
  trips : l.trips ++ spec.kept_after l.day l.moment l.last (drop l.next-index l.rest)
      ≡ l.fn.trips ++ spec.kept_after l.day l.moment l.first l.rest;
  ends : spec.last_trip l.last (spec.kept_after l.day l.moment l.last (drop l.next-index l.rest))
      ≡ spec.last_trip l.first (spec.kept_after l.day l.moment l.first l.rest);
}
