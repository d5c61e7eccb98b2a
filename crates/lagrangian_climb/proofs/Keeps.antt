-- Numbers of a price step.
use Rattle.std.proofs.Common.{◌≡◌, ℤ, ap, ◌∙◌}
use Rattle.lagrangian_climb.specs.Numbers.{kept_within}

pub kept-same : (a a' b b' z z' : ℤ) → a ≡ a' → b ≡ b' → z ≡ z' → kept_within a b z ≡ kept_within a' b' z'
kept-same a a' b b' z z' e f g =
    ap (λ (x : ℤ). kept_within x b z) e ∙ (ap (λ (x : ℤ). kept_within a' x z) f ∙ ap (λ (x : ℤ). kept_within a' b' x) g)
