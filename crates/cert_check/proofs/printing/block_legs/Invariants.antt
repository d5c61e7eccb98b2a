use Rattle.std.proofs.Common.{◌≡◌, ◌++◌, drop, map}
use Rattle.block_cut.specs.Legs.{block_legs as legs_of_block}
use Rattle.cert_check.proofs.printing.block_legs.Given as goal

-- the lists of legs so far stand before those of the other blocks
abbrev pub invariant-loop-block : goal.invariant-loop-block
invariant-loop-block l = map (legs_of_block l.day) l.blocks ≡ l.all ++ map (legs_of_block l.day) (drop l.block-index l.blocks)
