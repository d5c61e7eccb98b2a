use Rattle.std.proofs.Common.{◌≡◌, ◌≤◌, length}
use Rattle.cover_core.specs.FirstLeast.{AllWithin}
use Rattle.climb_rounds.proofs.start.quarter_prices.Given as goal

abbrev pub invariant-loop-item : goal.invariant-loop-item
invariant-loop-item l = record {
  order : l.item ≤ length l.spans;
  len : length l.prices ≡ l.item;
  moderate : AllWithin 10000000000000 l.prices;
}
