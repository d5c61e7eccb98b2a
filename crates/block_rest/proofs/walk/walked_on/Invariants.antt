use Rattle.std.proofs.Common.{◌≡◌, [], Some, drop, length}
use Rattle.cover_core.specs.Labels.{label_after}
use Rattle.cover_rest.specs.Rest.{written}
use Rattle.depot_network.specs.Open.{OpenFits, opening}
use Rattle.block_rest.proofs.walk.walked_on.Given as goal

-- the items that are passed are walked
abbrev pub invariant-loop-item : goal.invariant-loop-item
invariant-loop-item l = record {
  fits : OpenFits (length l.net.day.trips) l.open;
  walked : label_after (opening l.net.day l.net.counts [] l.pool) (Some l.fn.first) (written l.bodies l.rest) ≡
      label_after (opening l.net.day l.net.counts [] l.pool) (Some l.open) (written l.bodies (drop l.item-index l.rest));
}
