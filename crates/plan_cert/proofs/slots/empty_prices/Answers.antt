use Rattle.std.proofs.Common.{◌≡◌, ◌+◌, ◌++◌, ◌∷◌, [], List, ℤ, ℕ, ap, sym, ◌∙◌, arith}
use Rattle.std.proofs.lemmas.List.FromFn.{map-range_with_len_more}
use Rattle.std.specs.Prelude.{Option, None}
use Rattle.plan_cert.proofs.slots.empty_prices.Goals as goal

pub loop-preserved : goal.loop-preserved
loop-preserved c =
    let none : ℕ → Option ℤ = λ n. None in
    let zero : 0 + c.loop.counter ≡ c.loop.counter = omega arith in
    c.in_ok-push.ensures.ok
    ∙ (ap (λ (slots : List (Option ℤ)). slots ++ None ∷ []) c.loop.invariant
    ∙ sym (map-range_with_len_more none 0 c.loop.counter c.loop.counter zero))
