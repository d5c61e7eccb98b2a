use Rattle.std.proofs.Common.{◌≡◌, ◌≤◌, length, take}
use Rattle.cover_core.specs.FirstLeast.{AllWithin}
use Rattle.offer_estimate.specs.Estimates.{scaled_prices}
use Rattle.offer_estimate.proofs.scales.scaled.Given as goal

abbrev pub invariant-loop-item : goal.invariant-loop-item
invariant-loop-item l = record {
  order : l.item ≤ length l.prices.items;
  len : length l.items ≡ l.item;
  moderate : AllWithin 10000000000000 l.items;
  scaled : l.items ≡ scaled_prices l.scale (take l.item l.prices.items);
}
