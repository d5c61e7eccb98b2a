use Rattle.std.proofs.Common.{rules}
use Rattle.block_cut.proofs.Ordered.{blocks_more}
use Rattle.block_cut.proofs.cutting.pieces_of_blocks.Goals as goal

pub loop-place-preserved : goal.loop-place-preserved
loop-place-preserved c = record {
  made = blocks_more c.args.day.now c.loop-place.place c.args.blocks.now c.index-blocks-place.result c.loop-place.pieces
      c.add_block.new.pieces _ (search rules) c.index-blocks-place.is (search rules) c.loop-place.invariant.made;
  shifts = search rules;
}
