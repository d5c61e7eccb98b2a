use Rattle.block_rest.proofs.Kept.{of-day-at}
use Rattle.block_rest.proofs.earlier.add_heads_at.Goals as goal

pub add_head-requires-clause-class : goal.add_head-requires-clause-class
add_head-requires-clause-class c =
    (of-day-at c.args.day.now c.args.blocks.now c.loop-block.block-index c.block-item.result c.requires
    c.loop-block-test.true c.block-item.is).0

pub add_head-requires-clause-items : goal.add_head-requires-clause-items
add_head-requires-clause-items c =
    (of-day-at c.args.day.now c.args.blocks.now c.loop-block.block-index c.block-item.result c.requires
    c.loop-block-test.true c.block-item.is).1
