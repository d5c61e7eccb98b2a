use Rattle.std.proofs.Common.{◌≡◌, ◌<◌, ◌≤◌, ℕ, length}
use Rattle.cover_core.specs.Plans.{price_at}
use Rattle.cover_master.specs.Method.{moved_price}
use Rattle.cover_master.proofs.turns.moved_prices.Given as goal

abbrev pub invariant-loop-item : goal.invariant-loop-item
invariant-loop-item l = record {
  order : l.item ≤ length l.prices.items;
  len : length l.new ≡ l.item;
  moved : (k : ℕ) → k < l.item → price_at l.new k ≡ moved_price l.prices.items l.size l.cover k;
}
