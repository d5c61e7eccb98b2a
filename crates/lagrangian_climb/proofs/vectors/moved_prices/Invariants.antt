use Rattle.std.proofs.Common.{◌≡◌, ◌≤◌, length}
use Rattle.cover_core.specs.FirstLeast.{AllWithin}
use Rattle.lagrangian_climb.proofs.vectors.moved_prices.Given as goal

abbrev pub invariant-loop-item : goal.invariant-loop-item
invariant-loop-item l = record {
  order : l.item ≤ length l.prices.items;
  len : length l.items ≡ l.item;
  moderate : AllWithin 10000000000000 l.items;
}
