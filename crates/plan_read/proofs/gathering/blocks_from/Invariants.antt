use Rattle.std.proofs.Common.{◌≡◌, ◌++◌, drop}
use Rattle.umlauf_write.specs.Reading.{entries_from}
use Rattle.plan_read.specs.Gathering.{block_at}
use Rattle.plan_read.proofs.gathering.blocks_from.Given as goal

-- the blocks so far stand before those that are left
abbrev pub invariant-loop-place : goal.invariant-loop-place
invariant-loop-place l =
    entries_from (block_at l.lists) 0 l.classes ≡ l.columns ++ entries_from (block_at l.lists) l.place (drop l.place l.classes)
