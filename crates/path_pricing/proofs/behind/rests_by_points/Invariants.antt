use Rattle.std.proofs.Common.{◌≡◌, ◌≤◌, ◌+◌, ◌-◌, ◌*◌, length}
use Rattle.path_pricing.specs.Blocks.{AreBoundsFrom}
use Rattle.path_pricing.specs.Points.{passed_value, stood_value}
use Rattle.path_pricing.specs.Rows.{AreModerate, AreRows}
use Rattle.path_pricing.proofs.behind.rests_by_points.Given as goal

-- the rests of the trips from here on are made, and their rows
abbrev pub invariant-loop-t : goal.invariant-loop-t
invariant-loop-t l = record {
  from : l.from ≤ l.t;
  within : l.t ≤ length l.net.day.trips;
  count : length l.rests.items ≡ length l.net.day.trips;
  base : l.base ≡ (length l.net.day.trips - l.t) * l.width;
  stood_size : length l.stood.items ≡ (length l.net.day.trips - l.from + 1) * l.width;
  passed_size : length l.passed.items ≡ (length l.net.day.trips - l.from + 1) * l.width;
  stood_moderate : AreModerate l.stood.items;
  passed_moderate : AreModerate l.passed.items;
  stood_rows : AreRows (length l.net.day.trips) l.width l.t l.numbers
      (stood_value l.net.day l.net.counts l.prices l.pool l.rests.items) l.stood.items;
  passed_rows : AreRows (length l.net.day.trips) l.width l.t l.numbers (passed_value l.prices l.rests.items) l.passed.items;
  made : AreBoundsFrom l.net.day l.net.counts l.prices l.pool l.rests.items l.t;
}

abbrev pub decreases-loop-t : goal.decreases-loop-t
decreases-loop-t l = l.t
