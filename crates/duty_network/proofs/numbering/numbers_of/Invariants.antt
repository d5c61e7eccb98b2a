use Rattle.std.proofs.Common.{◌≡◌, ◌<◌, ◌≤◌, ℕ, length}
use Rattle.duty_network.specs.Followers.{entry_at}
use Rattle.duty_network.proofs.numbering.numbers_of.Given as goal

-- the pieces so far have numbers
abbrev pub invariant-loop-item : goal.invariant-loop-item
invariant-loop-item l = record {
  within : l.item ≤ length l.pieces;
  count : length l.numbers.items ≡ l.item;
  few : l.kinds ≤ l.item;
  below : (k : ℕ) → k < l.item → entry_at l.numbers.items k < l.kinds;
}
