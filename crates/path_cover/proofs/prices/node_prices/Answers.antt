use Rattle.std.proofs.Common.{◌≡◌, ◌++◌, ◌∷◌, [], ◌-ℤ◌, ◌*ℤ◌, List, ℕ, ℤ, pos, length, get_or, ap, ◌∙◌, arith, rules, FitsSigned, w64, to_z, of_z, to_z-of_z, length-append}
use Rattle.std.proofs.lemmas.List.{get_or_default}
use Rattle.plan_core.specs.declared.Price.{Price}
use Rattle.cover_core.specs.Plans.{price_at}
use Rattle.path_cover.proofs.Priced.{priced_more}
use Rattle.path_cover.proofs.prices.node_prices.Goals as goal

pub loop-t-preserved : goal.loop-t-preserved
loop-t-preserved c =
    let falls = c.args.falls.now in
    let t = c.loop-t.t in
    let inside = c.loop-t-test.true in
    let f : ℕ → ℤ = λ k. pos 1000 *ℤ ((pos 0 -ℤ pos (get_or falls.heads.items k 0)) -ℤ (pos 0 -ℤ pos (get_or falls.tails.items k 0))) in
    let heads_count = c.requires.places.heads in
    let tails_count = c.requires.places.tails in
    let head_is : c.index.result.now ≡ get_or falls.heads.items t 0 =
    c.index.ensures ∙ get_or_default falls.heads.items t c.index.result.now 0 (omega arith) in
    let tail_is : c.index-in-loop-t.result.now ≡ get_or falls.tails.items t 0 =
    c.index-in-loop-t.ensures ∙ get_or_default falls.tails.items t c.index-in-loop-t.result.now 0 (omega arith) in
    let fits : FitsSigned w64 c.thousandfold-price.result = search rules in
    let price : Price = record { 0 = to_z w64 (of_z w64 c.thousandfold-price.result) } in
    let value : price.0 ≡ f t =
    to_z-of_z fits ∙ (c.thousandfold-price.ensures
    ∙ (ap (λ (h : ℕ). pos 1000 *ℤ ((pos 0 -ℤ pos h) -ℤ (pos 0 -ℤ pos c.index-in-loop-t.result.now))) head_is
    ∙ ap (λ (k : ℕ). pos 1000 *ℤ ((pos 0 -ℤ pos (get_or falls.heads.items t 0)) -ℤ (pos 0 -ℤ pos k))) tail_is)) in
    let pushed : c.push.new.self ≡ c.loop-t.prices ++ price ∷ [] = c.in_ok-push.ensures.ok in
    record {
      count = ap (λ (l : List Price). length l) pushed
          ∙ omega (arith, length-append c.loop-t.prices (price ∷ []), c.loop-t.invariant.count);
      each = λ k h. ap (λ (l : List Price). price_at l k) pushed
          ∙ priced_more f c.loop-t.prices t price c.loop-t.invariant.count value c.loop-t.invariant.each k h;
    }
