use Rattle.std.proofs.Common.{◌≡◌, ◌≤◌, ◌+◌, length}
use Rattle.duty_network.specs.Followers.{AreFirstBehind, facts}
use Rattle.duty_network.proofs.followers.follower_of.Given as goal

-- the later pieces from this one on are noted
abbrev pub invariant-loop-next : goal.invariant-loop-next
invariant-loop-next l = record {
  within : l.next ≤ length l.pieces;
  from : l.item + 1 ≤ l.next;
  near_count : length l.near.items ≡ l.points.kinds;
  far_count : length l.far.items ≡ l.points.kinds;
  near : AreFirstBehind (facts l.pieces l.params) l.points.numbers.items l.item l.direct 0 l.next l.near.items;
  far : AreFirstBehind (facts l.pieces l.params) l.points.numbers.items l.item l.direct 10800 l.next l.far.items;
}

abbrev pub decreases-loop-next : goal.decreases-loop-next
decreases-loop-next l = l.next
