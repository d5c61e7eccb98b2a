use Rattle.std.proofs.Common.{◌≡◌, ◌+◌, ◌<◌, ℤ, pos, List, length, get_or, drop, ap, arith, rules, FitsSigned, w64, to_z, of_z, to_z-of_z}
use Rattle.std.specs.Int.{int_max}
use Rattle.std.proofs.lemmas.Int.{ints, clamps}
use Rattle.plan_core.specs.declared.Price.{Price}
use Rattle.price_rounds.specs.Rounds.{greatest_of}
use Rattle.price_rounds.proofs.Prices.{drop_more, get_low, get_high, greatest_begins, greatest_goes_on, greater_low, greater_high}
use Rattle.price_rounds.proofs.moves.greatest.Goals as goal

pub loop-price-init : goal.loop-price-init
loop-price-init c = record { value = greatest_begins c.args.prices.now; low = omega (arith, ints); high = omega (arith, ints) }

pub loop-price-preserved : goal.loop-price-preserved
loop-price-preserved c =
    let prices = c.args.prices.now in
    let k = c.loop-price.price-index in
    let none : Price = record { 0 = pos 0 } in
    let below : c.loop-price.price-index < length c.args.prices.now = c.loop-price-test.true in
    let low = get_low 10000000000000 c.args.prices.now c.loop-price.price-index none below c.requires in
    let high = get_high 10000000000000 c.args.prices.now c.loop-price.price-index none below c.requires in
    let x : ℤ = (get_or c.args.prices.now c.loop-price.price-index none).0 in
    let x_fits : FitsSigned w64 (get_or c.args.prices.now c.loop-price.price-index none).0 = omega (arith, ints, low, high) in
    let x_is : to_z w64 (of_z w64 (get_or c.args.prices.now c.loop-price.price-index none).0)
    ≡ (get_or c.args.prices.now c.loop-price.price-index none).0 = to_z-of_z x_fits in
    let m_fits : FitsSigned w64 c.max-greatest.result = search rules in
    let m_is : to_z w64 (of_z w64 c.max-greatest.result) ≡ c.max-greatest.result = to_z-of_z m_fits in
    let value : to_z w64 (of_z w64 c.max-greatest.result) ≡ int_max (get_or c.args.prices.now c.loop-price.price-index none).0
    (to_z w64 c.loop-price.greatest-bits) = omega (arith, ints, clamps, x_is, m_is, c.max-greatest.ensures.value) in
    let split : greatest_of (drop c.loop-price.price-index c.args.prices.now)
    ≡ int_max (get_or c.args.prices.now c.loop-price.price-index none).0
    (greatest_of (drop (c.loop-price.price-index + 1) c.args.prices.now)) =
    ap (λ (l : List Price). greatest_of l) (drop_more c.args.prices.now c.loop-price.price-index none below) in
    record {
      value =
          greatest_goes_on (to_z w64 c.loop-price.greatest-bits) (get_or c.args.prices.now c.loop-price.price-index none).0
          (to_z w64 (of_z w64 c.max-greatest.result)) (greatest_of (drop (c.loop-price.price-index + 1) c.args.prices.now))
          (greatest_of c.args.prices.now) (greatest_of (drop c.loop-price.price-index c.args.prices.now))
          value split c.loop-price.invariant.value;
      low = greater_low (to_z w64 c.loop-price.greatest-bits) (get_or c.args.prices.now c.loop-price.price-index none).0
          (to_z w64 (of_z w64 c.max-greatest.result)) value c.loop-price.invariant.low;
      high = greater_high (to_z w64 c.loop-price.greatest-bits) (get_or c.args.prices.now c.loop-price.price-index none).0
          (to_z w64 (of_z w64 c.max-greatest.result)) value high c.loop-price.invariant.high;
    }
