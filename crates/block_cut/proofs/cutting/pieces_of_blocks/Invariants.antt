use Rattle.std.proofs.Common.{◌≡◌, ◌+◌, ◌++◌, All, drop}
use Rattle.block_cut.specs.Cuts.{IsShift, pieces_by_block}
use Rattle.block_cut.proofs.cutting.pieces_of_blocks.Given as goal

-- the pieces so far stand before those of the other blocks
abbrev pub invariant-loop-place : goal.invariant-loop-place
invariant-loop-place l = record {
  made : l.pieces ++ pieces_by_block l.day (1 + l.place) (drop l.place l.blocks) ≡ pieces_by_block l.day 1 l.blocks;
  shifts : All IsShift l.pieces;
}
