use Rattle.std.proofs.Common.{◌≡◌, ◌≤◌, ℕ, length}
use Rattle.std.specs.Prelude.{Some, slice_get}
use Rattle.duty_network.specs.Followers.{IsFollowed}
use Rattle.duty_network.specs.declared.followers.Follower.{Follower}
use Rattle.duty_network.proofs.followers.followers_of.Given as goal

-- it is known what can follow each of the pieces so far
abbrev pub invariant-loop-item : goal.invariant-loop-item
invariant-loop-item l = record {
  within : l.item ≤ length l.pieces;
  count : length l.behind.items ≡ l.item;
  each : (item : ℕ) (own : Follower) → slice_get l.behind.items item ≡ Some own → IsFollowed l.pieces l.params l.points item own;
}
