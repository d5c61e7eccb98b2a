use Rattle.std.proofs.Common.{◌≡◌, ◌<◌, ℕ, pos, ◌-ℤ◌, ◌*ℤ◌, length, slice_index}
use Rattle.cover_core.specs.Plans.{price_at}
use Rattle.path_cover.proofs.prices.node_prices.Given as goal

abbrev pub invariant-loop-t : goal.invariant-loop-t
invariant-loop-t l = record {
  count : length l.prices ≡ l.t;
  each : (k : ℕ) → k < l.t →
      price_at l.prices k ≡ pos 1000 *ℤ
      ((pos 0 -ℤ pos (slice_index l.falls.heads.items k)) -ℤ (pos 0 -ℤ pos (slice_index l.falls.tails.items k)));
}
