use Rattle.std.proofs.Common.{◌≡◌, ◌+◌, ◌<◌, ◌≤◌, ℕ, drop, length, slice_index}
use Rattle.umlauf_write.specs.Tables.{block_of}
use Rattle.umlauf_write.proofs.numbers.block_numbers.Given as goal

-- the blocks from one on are noted
abbrev pub invariant-loop-left : goal.invariant-loop-left
invariant-loop-left l = record {
  within : l.left ≤ length l.blocks;
  count : length l.numbers.items ≡ l.trips;
  noted : (trip : ℕ) → trip < l.trips → slice_index l.numbers.items trip ≡ block_of (l.left + 1) (drop l.left l.blocks) trip;
}

abbrev pub decreases-loop-left : goal.decreases-loop-left
decreases-loop-left l = l.left
