use Rattle.std.proofs.Common.{arith}
use Rattle.cover_core.proofs.Values.{AllBelow-get}
use Rattle.plan_dive.proofs.descent.fix_items.Goals as goal

pub set-requires : goal.set-requires
set-requires c =
    let below = AllBelow-get _ c.args.list.now c.loop-item.item-index c.requires c.loop-item-test.true in
    let len = c.loop-item.invariant in
    omega arith
