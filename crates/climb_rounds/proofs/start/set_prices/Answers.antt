use Rattle.std.proofs.Common.{arith}
use Rattle.cover_core.proofs.Values.{AllBelow-get}
use Rattle.climb_rounds.proofs.start.set_prices.Goals as goal

pub set_price-requires-clause-inside : goal.set_price-requires-clause-inside
set_price-requires-clause-inside c =
    let below = AllBelow-get _ c.args.list.now c.loop-item.item-index c.requires.items c.loop-item-test.true in
    let len = c.loop-item.invariant.len in
    omega arith
