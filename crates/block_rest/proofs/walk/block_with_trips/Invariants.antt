use Rattle.std.proofs.Common.{◌≡◌, [], Some, drop, length}
use Rattle.cover_core.specs.Labels.{label_after}
use Rattle.depot_network.specs.Open.{OpenFits, opening}
use Rattle.block_rest.proofs.walk.block_with_trips.Given as goal

-- the trips that are passed are walked
abbrev pub invariant-loop-trip : goal.invariant-loop-trip
invariant-loop-trip l = record {
  fits : OpenFits (length l.net.day.trips) l.open;
  walked : label_after (opening l.net.day l.net.counts [] l.pool) (Some l.fn.first) l.rest
      ≡ label_after (opening l.net.day l.net.counts [] l.pool) (Some l.open) (drop l.trip-index l.rest);
}
