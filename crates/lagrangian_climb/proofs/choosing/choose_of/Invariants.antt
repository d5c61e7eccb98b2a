use Rattle.std.proofs.Common.{◌≡◌, ℕ, ◌≤◌, ◌*◌, ◌+ℤ◌, ◌≤ℤ◌, pos, neg_ℤ, ◌++◌, drop, length}
use Rattle.std.specs.Prelude.{slice_index}
use Rattle.lagrangian_climb.specs.Choices.{chosen_places, chosen_sum, priced_classes}
use Rattle.lagrangian_climb.proofs.choosing.choose_of.Given as goal

abbrev pub invariant-loop-key : goal.invariant-loop-key
invariant-loop-key l = record {
  order : l.key-index ≤ length l.key-items;
  counts : length l.counts ≡ length l.caps;
  few : (i : ℕ) → slice_index l.counts i ≤ l.key-index;
  asked : length l.choice.class_prices ≡ length l.caps;
  places : chosen_places l.caps l.initial.counts l.key-items ≡ l.choice.places
      ++ chosen_places l.caps l.counts (drop l.key-index l.key-items);
  sum : chosen_sum l.caps l.initial.counts l.key-items ≡ l.choice.sum +ℤ chosen_sum l.caps l.counts (drop l.key-index l.key-items);
  class_prices : priced_classes l.caps l.initial.counts l.key-items l.initial.choice.class_prices
      ≡ priced_classes l.caps l.counts (drop l.key-index l.key-items) l.choice.class_prices;
  low : neg_ℤ (pos (30000000000000000 * l.key-index)) ≤ℤ l.choice.sum;
  high : l.choice.sum ≤ℤ pos 0;
}
