-- The place of the first that passes a test, and what stands for it where there is none.
use Rattle.std.proofs.Common.{◌≡◌, ℕ, Bool, List, sym, ap, ◌∙◌}
use Rattle.std.proofs.lemmas.Iterator.Adapters.{position_from-zero}
use Rattle.std.specs.List.{position, position_from}
use Rattle.std.specs.Prelude.{Option, Some, None, unwrap_or}

pub place-found : {A : Type 0} (test : A → Bool) (xs : List A) (d k : ℕ) (found : Option ℕ) → found ≡ position test xs → found ≡ Some k →
    k ≡ unwrap_or (position_from test 0 xs) d
place-found test xs d k found is at = let same : position_from test 0 xs ≡ Some k = sym (position_from-zero test xs)
    ∙ (sym is ∙ at) in ap (λ (o : Option ℕ). unwrap_or o d) (sym same)

pub none-found : {A : Type 0} (test : A → Bool) (xs : List A) (d : ℕ) (found : Option ℕ) → found ≡ position test xs → found ≡ None →
    d ≡ unwrap_or (position_from test 0 xs) d
none-found test xs d found is at = let same : position_from test 0 xs ≡ None = sym (position_from-zero test xs)
    ∙ (sym is ∙ at) in ap (λ (o : Option ℕ). unwrap_or o d) (sym same)
