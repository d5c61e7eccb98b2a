use Rattle.std.proofs.Common.{◌≡◌, ◌<◌, ℤ, pos, neg_ℤ, ◌≤ℤ◌, List, [], ◌∷◌, ◌++◌, length, sym, ap, ◌∙◌, subst, arith, rules, length-append, FitsSigned, to_z, of_z, w64, to_z-of_z}
use Rattle.std.proofs.lemmas.Int.{ints}
use Rattle.plan_core.specs.declared.Price.{Price}
use Rattle.cover_core.specs.FirstLeast.{AllWithin}
use Rattle.cover_core.specs.Plans.{price_at}
use Rattle.cover_core.proofs.Values.{IsWithin, AllWithin-push}
use Rattle.offer_estimate.specs.Estimates.{scaled_price}
use Rattle.offer_estimate.proofs.Scaling.{scaled-more}
use Rattle.offer_estimate.proofs.scales.scaled.Goals as goal

pub loop-item-preserved : goal.loop-item-preserved
loop-item-preserved c =
    let prices = c.args.prices.now.items in
    let item = c.loop-item.item in
    let part : ℤ = c.args.scale.part in
    let whole : ℤ = c.args.scale.whole in
    let s = c.requires.scale in
    let some = s.some in
    let ordered = s.ordered in
    let part_high = s.part in
    let whole_high = s.whole in
    let z : ℤ = to_z w64 (of_z w64 c.price_scaled.result) in
    let x : Price = record { 0 = z } in
    let l = c.price_scaled.ensures.low in
    let h = c.price_scaled.ensures.high in
    let low : neg_ℤ (pos 10000000000000) ≤ℤ z = omega (arith, ints) in
    let high : z ≤ℤ pos 10000000000000 = omega (arith, ints) in
    let within : IsWithin 10000000000000 x.0 = record { low = low; high = high } in
    let fits : FitsSigned w64 c.price_scaled.result = search rules in
    let price_fits : FitsSigned w64 c.price_at-price.result = search rules in
    let price_is : to_z w64 (of_z w64 c.price_at-price.result) ≡ price_at prices item =
    to_z-of_z price_fits ∙ c.price_at-price.ensures.value in
    let part_is : to_z w64 (of_z w64 part) ≡ part = omega (arith, ints) in
    let whole_is : to_z w64 (of_z w64 whole) ≡ whole = omega (arith, ints) in
    let is : x.0 ≡ scaled_price part whole (price_at prices item) =
    to_z-of_z fits ∙ c.price_scaled.ensures.value
    ∙ ap (λ (y : ℤ). scaled_price y (to_z w64 (of_z w64 whole)) (to_z w64 (of_z w64 c.price_at-price.result))) part_is ∙
    ap (λ (y : ℤ). scaled_price part y (to_z w64 (of_z w64 c.price_at-price.result))) whole_is
    ∙ ap (λ (y : ℤ). scaled_price part whole y) price_is in
    let long = c.len-item-end.ensures in
    let test = c.loop-item-test.true in
    let inside : item < length prices = omega arith in
    let pushed : c.push.new.self ≡ c.loop-item.items ++ x ∷ [] = c.in_ok-push.ensures.ok in
    let P : List Price → Type 0 = λ l. AllWithin 10000000000000 l in
    record {
      order = omega arith;
      len = ap (λ (l : List Price). length l) pushed ∙ (omega (arith, length-append c.loop-item.items (x ∷ []), c.loop-item.invariant.len));
      moderate = subst P (sym pushed) (AllWithin-push 10000000000000 c.loop-item.items x c.loop-item.invariant.moderate within);
      scaled = scaled-more c.args.scale prices c.loop-item.items c.push.new.self item x inside is pushed c.loop-item.invariant.scaled;
    }
