-- Prices, one more at a time.
use Rattle.std.proofs.Common.{◌≡◌, ℕ, ℤ, ◌+◌, ◌<◌, zero, suc, List, [], ◌∷◌, ◌++◌, length, refl, sym, ap, ◌∙◌, inl, inr, arith}
use Rattle.std.proofs.lemmas.Bool.{cases_eq}
use Rattle.plan_core.specs.declared.Price.{Price}
use Rattle.cover_core.specs.Plans.{price_at}

price_at-front : (xs : List Price) (p : Price) (k : ℕ) → k < length xs → price_at (xs ++ p ∷ []) k ≡ price_at xs k
price_at-front [] p k h = absurd (omega arith)
price_at-front (x ∷ xs) p zero h = refl
price_at-front (x ∷ xs) p (suc k) h = price_at-front xs p k (omega arith)

price_at-last : (xs : List Price) (p : Price) (k : ℕ) → k ≡ length xs → price_at (xs ++ p ∷ []) k ≡ p.0
price_at-last [] p zero h = refl
price_at-last [] p (suc k) h = absurd (omega arith)
price_at-last (x ∷ xs) p zero h = absurd (omega arith)
price_at-last (x ∷ xs) p (suc k) h = price_at-last xs p k (omega arith)

-- one more price of a rule
pub priced_more : (f : ℕ → ℤ) (new : List Price) (item : ℕ) (p : Price) → length new ≡ item → p.0 ≡ f item →
    ((k : ℕ) → k < item → price_at new k ≡ f k) →
    (k : ℕ) → k < item + 1 → price_at (new ++ p ∷ []) k ≡ f k
priced_more f new item p len is so_far k below = elim (cases_eq k item) [
  | inl same ↦ price_at-last new p k (same ∙ sym len) ∙ is ∙ ap f (sym same)
  | inr apart ↦ let less : k < item = omega arith in price_at-front new p k (omega arith) ∙ so_far k less
]
