use Rattle.std.proofs.Common.{◌≡◌, ◌+◌, ◌++◌, drop, map}
use Rattle.number_tables.specs.Numbers.{number_row, number_rows}
use Rattle.umlauf_write.specs.Tables.{block_row, numbered}
use Rattle.umlauf_write.proofs.blocks.block_rows.Given as goal

-- the rows so far stand before those of the other blocks
abbrev pub invariant-loop-place : goal.invariant-loop-place
invariant-loop-place l =
    number_rows (numbered (block_row l.day) 1 l.blocks)
    ≡ l.rows ++ map number_row (numbered (block_row l.day) (1 + l.place) (drop l.place l.blocks))
