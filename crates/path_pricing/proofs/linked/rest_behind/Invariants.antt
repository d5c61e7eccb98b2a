use Rattle.std.proofs.Common.{length}
use Rattle.path_pricing.specs.Blocks.{ClosesAbove, IsDeep, StepsAbove}
use Rattle.path_pricing.proofs.linked.rest_behind.Given as goal

-- the trips that are passed are looked at
abbrev pub invariant-loop-u : goal.invariant-loop-u
invariant-loop-u l = record {
  closes : ClosesAbove l.net.day l.net.counts l.pool l.t l.least;
  steps : StepsAbove l.net.day l.net.counts l.prices l.pool l.rests l.t l.u l.least;
  deep : IsDeep (length l.net.day.trips) l.t l.least;
}
