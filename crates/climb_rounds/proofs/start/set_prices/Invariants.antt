use Rattle.std.proofs.Common.{◌≡◌, length}
use Rattle.cover_core.specs.FirstLeast.{AllWithin}
use Rattle.climb_rounds.proofs.start.set_prices.Given as goal

abbrev pub invariant-loop-item : goal.invariant-loop-item
invariant-loop-item l = record {
  len : length l.prices ≡ length l.initial.prices;
  moderate : AllWithin 10000000000000 l.prices;
}
