use Rattle.std.proofs.Common.{◌≡◌, ◌≤◌, ◌≤ℤ◌, neg_ℤ, pos, ◌*◌, take, length}
use Rattle.cover_core.specs.Plans.{all_prices}
use Rattle.dual_bound.proofs.total.Given as goal

abbrev pub invariant-loop-price : goal.invariant-loop-price
invariant-loop-price l = record {
  order : l.price-index ≤ length l.price-items;
  items : l.price-items ≡ l.prices.items;
  sum : l.sum ≡ all_prices (take l.price-index l.prices.items);
  low : neg_ℤ (pos (3000000000000000 * l.price-index)) ≤ℤ l.sum;
  high : l.sum ≤ℤ pos (3000000000000000 * l.price-index);
}
