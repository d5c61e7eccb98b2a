use Rattle.std.proofs.Common.{◌≡◌, ℤ, pos, neg_ℤ, ◌≤ℤ◌, List, [], ◌∷◌, ◌++◌, length, sym, ap, ◌∙◌, subst, arith, length-append, to_z, of_z, w64}
use Rattle.std.proofs.lemmas.Int.{ints}
use Rattle.plan_core.specs.declared.Price.{Price}
use Rattle.cover_core.specs.FirstLeast.{AllWithin}
use Rattle.cover_core.proofs.Values.{IsWithin, AllWithin-push}
use Rattle.lagrangian_climb.proofs.vectors.moved_prices.Goals as goal

pub loop-item-preserved : goal.loop-item-preserved
loop-item-preserved c =
    let z : ℤ = to_z w64 (of_z w64 c.price_after_move-price.result) in
    let x : Price = record { 0 = z } in
    let span_low = c.span_at-span.ensures.low in
    let span_high = c.span_at-span.ensures.high in
    let low : neg_ℤ (pos 10000000000000) ≤ℤ z =
    (let l = c.price_after_move-price.ensures.low in let h = c.price_after_move-price.ensures.high in omega (arith, ints)) in
    let high : z ≤ℤ pos 10000000000000 =
    (let l = c.price_after_move-price.ensures.low in let h = c.price_after_move-price.ensures.high in omega (arith, ints)) in
    let within : IsWithin 10000000000000 x.0 = record { low = low; high = high } in
    let pushed : c.push.new.self ≡ c.loop-item.items ++ x ∷ [] = c.in_ok-push.ensures.ok in
    let P : List Price → Type 0 = λ l. AllWithin 10000000000000 l in
    record {
      order = omega arith;
      len = ap (λ (l : List Price). length l) pushed ∙ (omega (arith, length-append c.loop-item.items (x ∷ []), c.loop-item.invariant.len));
      moderate = subst P (sym pushed) (AllWithin-push 10000000000000 c.loop-item.items x c.loop-item.invariant.moderate within);
    }
