use Rattle.std.proofs.Common.{◌≤◌, ◌*◌, pos, neg_ℤ, ◌≤ℤ◌, length}
use Rattle.climb_rounds.proofs.offers.sum_of.Given as goal

abbrev pub invariant-loop-item : goal.invariant-loop-item
invariant-loop-item l = record {
  order : l.item ≤ length l.prices.items;
  low : neg_ℤ (pos (10000000000000 * l.item)) ≤ℤ l.sum;
  high : l.sum ≤ℤ pos (10000000000000 * l.item);
}
