use Rattle.std.proofs.Common.{◌≡◌, ◌≤◌, length}
use Rattle.path_pricing.specs.Blocks.{AreBoundsFrom}
use Rattle.path_pricing.specs.Lows.{AreLows, IsLowOver}
use Rattle.path_pricing.proofs.linked.rests_by_links.Given as goal

-- the rests of the trips from here on are made, and the numbers that they less their prices are not below
abbrev pub invariant-loop-t : goal.invariant-loop-t
invariant-loop-t l = record {
  from : l.from ≤ l.t;
  within : l.t ≤ length l.net.day.trips;
  count : length l.rests.items ≡ length l.net.day.trips;
  lows_count : length l.lows.items ≡ length l.net.day.trips;
  low : IsLowOver l.prices l.rests.items l.t (length l.net.day.trips) l.low;
  lows : AreLows l.prices l.rests.items l.lows.items l.t (length l.net.day.trips);
  made : AreBoundsFrom l.net.day l.net.counts l.prices l.pool l.rests.items l.t;
}

abbrev pub decreases-loop-t : goal.decreases-loop-t
decreases-loop-t l = l.t
