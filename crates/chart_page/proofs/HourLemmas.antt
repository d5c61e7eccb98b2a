-- Numbers that follow one another.
use Rattle.std.proofs.Common.{◌≡◌, ℕ, ◌+◌, ◌-◌, ◌<◌, ◌≤◌, List, [], ◌∷◌, ◌++◌, suc, ap, sym, ◌∙◌, append_assoc, arith}
use Rattle.std.specs.List.{range_with_len}
use Rattle.std.proofs.lemmas.List.{append-nil}

-- from a first number to an end
pub hours_first : (a e n : ℕ) → e ≡ a + n → range_with_len a (e - a) ≡ range_with_len a n
hours_first a e n is = let rest : e - a ≡ n = omega arith in ap (λ (k : ℕ). range_with_len a k) rest

-- one number more
hours_next : (a e : ℕ) → a < e → range_with_len a (e - a) ≡ a ∷ range_with_len (a + 1) (e - (a + 1))
hours_next a e more = let rest : e - a ≡ suc (e - (a + 1)) = omega arith in ap (λ (k : ℕ). range_with_len a k) rest

pub hours_more : (xs whole : List ℕ) (a e : ℕ) → a < e → xs ++ range_with_len a (e - a) ≡ whole →
    (xs ++ a ∷ []) ++ range_with_len (a + 1) (e - (a + 1)) ≡ whole
hours_more xs whole a e more all =
    append_assoc xs (a ∷ []) (range_with_len (a + 1) (e - (a + 1))) ∙ ap (λ (t : List ℕ). xs ++ t) (sym (hours_next a e more)) ∙ all

-- no number is left
pub hours_all : (xs whole : List ℕ) (a e : ℕ) → e ≤ a → xs ++ range_with_len a (e - a) ≡ whole → xs ≡ whole
hours_all xs whole a e none all =
    let rest : e - a ≡ 0 = omega arith in
    sym (append-nil xs) ∙ ap (λ (k : ℕ). xs ++ range_with_len a k) (sym rest) ∙ all
