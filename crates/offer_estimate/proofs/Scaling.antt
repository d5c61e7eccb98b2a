-- Prices at a scale, one more at a time.
use Rattle.std.proofs.Common.{◌≡◌, ℕ, ℤ, pos, ◌+◌, ◌<◌, List, [], ◌∷◌, ◌++◌, length, get_or, take, map, sym, ap, ◌∙◌}
use Rattle.std.proofs.lemmas.List.{take_more, map-append}
use Rattle.plan_core.specs.declared.Price.{Price}
use Rattle.cover_core.specs.Plans.{price_at}
use Rattle.cover_core.proofs.Values.{price_at-get}
use Rattle.offer_estimate.specs.declared.scales.Scale.{Scale}
use Rattle.offer_estimate.specs.Estimates.{scaled_price, scaled_prices}

pub scaled-more : (s : Scale) (prices items new : List Price) (item : ℕ) (x : Price) → item < length prices →
    x.0 ≡ scaled_price s.part s.whole (price_at prices item) →
    new ≡ items ++ x ∷ [] → items ≡ scaled_prices s (take item prices) → new ≡ scaled_prices s (take (item + 1) prices)
scaled-more s prices items new item x inside is pushed so_far =
    let d : Price = record { 0 = pos 0 } in
    let mk : ℤ → Price = λ z. record { 0 = z } in
    let f : Price → Price = λ y. record { 0 = scaled_price s.part s.whole y.0 } in
    let here : x ≡ f (get_or prices item d) =
    ap mk is ∙ ap (λ (z : ℤ). mk (scaled_price s.part s.whole z)) (price_at-get prices item d inside) in
    let split : scaled_prices s (take (item + 1) prices) ≡ scaled_prices s (take item prices) ++ f (get_or prices item d) ∷ [] =
    ap (λ (l : List Price). map f l) (take_more prices item d inside) ∙ map-append f (take item prices) (get_or prices item d ∷ []) in
    pushed ∙ ap (λ (l : List Price). l ++ x ∷ []) so_far ∙ ap (λ (y : Price). scaled_prices s (take item prices) ++ y ∷ []) here ∙ sym split
