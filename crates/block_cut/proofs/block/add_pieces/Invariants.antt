use Rattle.std.proofs.Common.{◌≡◌, ◌+◌, ◌≤◌, ◌++◌, All, drop, None}
use Rattle.block_cut.specs.Cuts.{AreAfter, IsShift, cut_on, stands}
use Rattle.block_cut.proofs.block.add_pieces.Given as goal

-- the pieces so far stand before those of the legs left
abbrev pub invariant-loop-leg : goal.invariant-loop-leg
invariant-loop-leg l = record {
  made : l.pieces ++ cut_on l.day l.pool l.block l.at.index l.at.held (drop l.leg-index l.legs)
      ≡ l.fn.pieces ++ cut_on l.day l.pool l.block 1 None l.legs;
  few : l.at.index + stands (drop l.leg-index l.legs) ≤ 1 + stands l.legs;
  after : AreAfter l.at.held (drop l.leg-index l.legs);
  shifts : All IsShift l.pieces;
}
