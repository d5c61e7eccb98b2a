-- What comes first comes first alone.
use Rattle.std.proofs.Common.{◌≡◌, ℕ, ◌<◌, ◌⊎◌, inl, inr, List, [], ◌∷◌, length, zero, suc, sym, ◌∙◌, arith}
use Rattle.std.specs.Prelude.{Option, Some, None, Result, Ok, Err, slice_get}

pub ok-same : {T E : Type 0} (r : Result T E) (x y : T) → r ≡ Ok x → r ≡ Ok y → x ≡ y
ok-same r x y h k = let e : Ok x ≡ Ok y = sym h ∙ k in cc

pub err-same : {T E : Type 0} (r : Result T E) (x y : E) → r ≡ Err x → r ≡ Err y → x ≡ y
err-same r x y h k = let e : Err x ≡ Err y = sym h ∙ k in cc

pub ok-err : {T E : Type 0} (r : Result T E) (x : T) (y : E) → r ≡ Ok x → r ≡ Err y → ⊥
ok-err r x y h k = let e : Ok x ≡ Err y = sym h ∙ k in cc

pub some-same : {A : Type 0} (o : Option A) (x y : A) → o ≡ Some x → o ≡ Some y → x ≡ y
some-same o x y h k = let e : Some x ≡ Some y = sym h ∙ k in cc

pub some-none : {A : Type 0} (o : Option A) (x : A) → o ≡ Some x → o ≡ None → ⊥
some-none o x h k = let e : Some x ≡ None = sym h ∙ k in cc

-- an element stands at a place that is there
pub place-there : {A : Type 0} (xs : List A) (place : ℕ) (x : A) → slice_get xs place ≡ Some x → place < length xs
place-there [] place x at = absurd (cc)
place-there (y ∷ ys) zero x at = omega arith
place-there (y ∷ ys) (suc place) x at = let rest = place-there ys place x at in omega arith

three-ways : (a b : ℕ) → (a < b) ⊎ ((a ≡ b) ⊎ (b < a))
three-ways a b = grind arith

-- Two numbers of which a property does not hold, while it holds of all before each of them, are one. If one were smaller, the property
-- would hold of it, as all before the other have it; yet of it the property does not hold. By this each first trip, list, class or
-- class price that a reason names is one alone.
pub one-first : (P : ℕ → Type 0) (k j : ℕ) → ((n : ℕ) → n < k → P n) → (P k → ⊥) → ((n : ℕ) → n < j → P n) → (P j → ⊥) → k ≡ j
one-first P k j before fails before' fails' = elim (three-ways k j) [
  | inl less ↦ absurd (fails (before' k less))
  | inr rest ↦ elim rest [
    | inl same ↦ same
    | inr more ↦ absurd (fails' (before j more))
  ]
]

-- Two things of one of two kinds each are the same where those of the first kind are, those of the second kind are, and two of different
-- kinds contradict each other.
-- A step of the checker ends or passes. So two answers that are at one step are the same there: both end, with the same reason; or
-- both pass, and it is shown of the steps behind; and one cannot end where the other passes. Each step of both checks is one use of
-- this.
pub one-of-two : (A B A' B' S : Type 0) → A ⊎ B → A' ⊎ B' → (A → A' → S) → (A → B' → ⊥) → (A' → B → ⊥) → (B → B' → S) → S
one-of-two A B A' B' S h k first apart apart' second = elim h [
  | inl one ↦ elim k [
    | inl other ↦ first one other
    | inr other ↦ absurd (apart one other)
  ]
  | inr one ↦ elim k [
    | inl other ↦ absurd (apart' other one)
    | inr other ↦ second one other
  ]
]
