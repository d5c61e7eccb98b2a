use Rattle.std.proofs.Common.{◌≡◌, ◌<◌, ◌*ℤ◌, pos, length, get_or, arith, ap, ◌∙◌, rules, w64, FitsSigned}
use Rattle.std.proofs.lemmas.Int.{ints, to_z-of_z}
use Rattle.cover_core.specs.Plans.{number_at}
use Rattle.cover_core.proofs.Values.{number_at-get}
use Rattle.dual_bound.proofs.Bounds.{rent-take, AreAtLeast-get}
use Rattle.dual_bound.proofs.all_rent.Goals as goal

pub class_rent-sum-requires : goal.class_rent-sum-requires
class_rent-sum-requires c =
    let below : c.loop-class.class < length c.args.class_prices.now = (let same = c.requires.one_each in omega arith) in
    let fits : FitsSigned w64 (get_or c.args.class_prices.now c.loop-class.class (pos 0)) = search rules in
    rw (to_z-of_z w64 _ fits) (AreAtLeast-get (pos 0) c.args.class_prices.now c.loop-class.class (pos 0) below c.requires.charged)

pub loop-class-preserved : goal.loop-class-preserved
loop-class-preserved c =
    let below : c.loop-class.class < length c.args.class_prices.now = (let same = c.requires.one_each in omega arith) in
    let here : c.loop-class.class < length c.args.caps.now = omega arith in
    let fits : FitsSigned w64 (get_or c.args.class_prices.now c.loop-class.class (pos 0)) = search rules in
    let value = c.class_rent-sum.ensures.value in
    let rented : c.class_rent-sum.result ≡ pos (get_or c.args.caps.now c.loop-class.class 0) *ℤ number_at
    c.args.class_prices.now c.loop-class.class =
    (rw (to_z-of_z w64 _ fits) at value)
    ∙ ap (λ z. pos (get_or c.args.caps.now c.loop-class.class 0) *ℤ z)
    (number_at-get c.args.class_prices.now c.loop-class.class (pos 0) below) in
    let low = c.class_rent-sum.ensures.low in
    let high = c.class_rent-sum.ensures.high in
    let few = c.requires.classes in
    let so_far = c.loop-class.invariant.sum in
    let so_low = c.loop-class.invariant.low in
    let so_high = c.loop-class.invariant.high in
    let more = rent-take c.args.caps.now c.args.class_prices.now c.loop-class.class here below in
    record {
      order = omega arith;
      sum = omega (arith, ints);
      low = omega (arith, ints);
      high = omega (arith, ints);
    }
