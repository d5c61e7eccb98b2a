use Rattle.std.proofs.Common.{◌≡◌, ◌<◌, pos, length, get_or, arith, ap, rules, w64, FitsSigned}
use Rattle.std.proofs.lemmas.Int.{ints}
use Rattle.plan_core.specs.declared.Price.{Price}
use Rattle.dual_bound.proofs.Bounds.{all_prices-take, AllWithin-low, AllWithin-high}
use Rattle.dual_bound.proofs.total.Goals as goal

pub loop-price-preserved : goal.loop-price-preserved
loop-price-preserved c =
    let items = c.as_slice-price-items.ensures in
    let none : Price = record { 0 = pos 0 } in
    let below : c.loop-price.price-index < length c.args.prices.now.items = rw (← items) c.loop-price-test.true in
    let low = AllWithin-low 3000000000000000 c.args.prices.now.items c.loop-price.price-index none below c.requires.moderate in
    let high = AllWithin-high 3000000000000000 c.args.prices.now.items c.loop-price.price-index none below c.requires.moderate in
    let here : (get_or c.as_slice-price-items.result.now c.loop-price.price-index none).0
    ≡ (get_or c.args.prices.now.items c.loop-price.price-index none).0 = ap (λ l. (get_or l c.loop-price.price-index none).0) items in
    let fits : FitsSigned w64 (get_or c.as_slice-price-items.result.now c.loop-price.price-index none).0 = search rules in
    let few = c.requires.few in
    let so_far = c.loop-price.invariant.sum in
    let so_low = c.loop-price.invariant.low in
    let so_high = c.loop-price.invariant.high in
    let more = all_prices-take c.args.prices.now.items c.loop-price.price-index none below in
    record {
      order = omega arith;
      items = items;
      sum = omega (arith, ints);
      low = omega (arith, ints);
      high = omega (arith, ints);
    }
