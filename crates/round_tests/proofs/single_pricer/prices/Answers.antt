use Rattle.std.proofs.Common.{[], ◌∷◌, length, length-append, arith, ap, ◌∙◌}
use Rattle.round_tests.proofs.SinglesAre.{AllWithin-push}
use Rattle.round_tests.proofs.single_pricer.prices.Goals as goal

pub loop-item-preserved : goal.loop-item-preserved
loop-item-preserved c =
    let pushed = c.in_ok-push.ensures.ok in
    record {
      len = (let long = ap length pushed ∙ length-append c.loop-item.list (c.price_of.result ∷ []) in let so_far =
          c.loop-item.invariant.len in omega arith);
      moderate = rw pushed (AllWithin-push 10000000000000 c.loop-item.list c.price_of.result c.loop-item.invariant.moderate
          c.price_of.ensures.low c.price_of.ensures.high);
    }
