use Rattle.std.proofs.Common.{arith}
use Rattle.std.proofs.lemmas.Int.{ints}
use Rattle.climb_rounds.proofs.offers.sum_of.Goals as goal

pub loop-item-preserved : goal.loop-item-preserved
loop-item-preserved c =
    let low = c.loop-item.invariant.low in
    let high = c.loop-item.invariant.high in
    let price_low = c.price_at.ensures.low in
    let price_high = c.price_at.ensures.high in
    record { order = omega arith; low = omega (arith, ints); high = omega (arith, ints) }
