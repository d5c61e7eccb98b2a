use Rattle.std.proofs.Common.{◌≤ℤ◌, pos}
use Rattle.path_pricing.specs.Blocks.{ClosesAbove}
use Rattle.path_pricing.specs.Points.{PointsAbove}
use Rattle.path_pricing.proofs.behind.rest_behind.Given as goal

-- the points that are passed are looked at
abbrev pub invariant-loop-number : goal.invariant-loop-number
invariant-loop-number l = record {
  closes : ClosesAbove l.net.day l.net.counts l.pool l.t l.least;
  high : l.least ≤ℤ pos 100000000000000000;
  points : PointsAbove l.net.day l.net.counts l.prices l.pool l.rests l.numbers l.t l.number l.least;
}
