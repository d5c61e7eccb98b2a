use Rattle.std.proofs.Common.{◌≡◌, ◌<◌, ◌∙◌, sym, pos, neg_ℤ, length, get_or, arith, rules, w64, FitsSigned}
use Rattle.std.proofs.lemmas.Int.{to_z-of_z}
use Rattle.cover_core.specs.FirstLeast.{class_price_of}
use Rattle.dual_bound.proofs.Bounds.{AreAtLeast-get, class_prices_of-take}
use Rattle.dual_bound.proofs.kept.class_prices_in.Goals as goal

pub class_price-requires : goal.class_price-requires
class_price-requires c =
    let below : c.loop-value.value-index < length c.args.least.now = omega arith in
    let fits : FitsSigned w64 (get_or c.args.least.now c.loop-value.value-index (pos 0)) = search rules in
    rw (to_z-of_z w64 _ fits)
    (AreAtLeast-get (neg_ℤ (pos 1000000000000000000)) c.args.least.now c.loop-value.value-index (pos 0) below c.requires.low)

pub loop-value-preserved : goal.loop-value-preserved
loop-value-preserved c =
    let below : c.loop-value.value-index < length c.args.least.now = omega arith in
    let fits : FitsSigned w64 (get_or c.args.least.now c.loop-value.value-index (pos 0)) = search rules in
    let result_fits : FitsSigned w64 c.class_price.result = search rules in
    let shown = c.class_price.ensures in
    let price : c.class_price.result ≡ class_price_of (get_or c.args.least.now c.loop-value.value-index (pos 0)) =
    rw (to_z-of_z w64 _ fits) at shown in
    let more = class_prices_of-take c.args.least.now c.loop-value.value-index (pos 0) below in
    let so_far = c.loop-value.invariant.new in
    let pushed = c.in_ok-push.ensures.ok in
    record {
      order = omega arith;
      new = pushed ∙ (rw (to_z-of_z w64 _ result_fits, price, so_far) (sym more));
    }
