use Rattle.std.proofs.Common.{arith}
use Rattle.std.proofs.lemmas.Int.{ints}
use Rattle.lagrangian_climb.proofs.vectors.free_sum.Goals as goal
use Rattle.lagrangian_climb.proofs.vectors.free_sum.Goals.{then-not-fixed-item, else-not-fixed-item}

pub loop-item-preserved : goal.loop-item-preserved
loop-item-preserved c =
    let low = c.loop-item.invariant.low in
    let high = c.loop-item.invariant.high in
    elim c.if-not-fixed-item.branch [
      | then-not-fixed-item w ↦
          let price_low = w.price_at.ensures.low in
          let price_high = w.price_at.ensures.high in
          let is = w.sum-is in
          record { order = omega arith; low = omega (arith, ints); high = omega (arith, ints) }
      | else-not-fixed-item w ↦
          let is = w.sum-is in
          record { order = omega arith; low = omega (arith, ints); high = omega (arith, ints) }
    ]
