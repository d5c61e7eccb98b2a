use Rattle.std.proofs.Common.{◌≤◌, length}
use Rattle.duty_pricing.specs.Bounds.{AreBelow, IsBoundFrom, IsChain, IsTail}
use Rattle.duty_pricing.proofs.bounds.bounds.Given as goal

-- the rows of the pieces from this one on are bounds
abbrev pub invariant-loop-item : goal.invariant-loop-item
invariant-loop-item l = record {
  within : l.item ≤ length l.net.pieces;
  rows : IsBoundFrom l.net l.prices l.group l.reach 10800 l.last l.item l.rows.items l.over.rows.items;
  chain : IsChain l.net l.prices l.reach l.numbers l.rows.items l.item l.chain.items;
  tail : IsTail l.net l.prices l.reach l.numbers l.rows.items l.item l.tail.items;
  below : AreBelow l.over.rows.items l.rows.items;
}

abbrev pub decreases-loop-item : goal.decreases-loop-item
decreases-loop-item l = l.item
