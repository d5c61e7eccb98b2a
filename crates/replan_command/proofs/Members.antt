-- What stands in lists that are joined or put in order.
use Rattle.std.proofs.Common.{◌≡◌, ◌⊎◌, ℕ, Bool, true, false, if◌then◌else◌, zero, suc, List, [], ◌∷◌, ◌++◌, Some, inl, inr, slice_get, nat_lt, ap}
use Rattle.std.proofs.lemmas.Option.{same_Some}
use Rattle.plan_params.specs.Settings.{in_order, put_in_order}

-- an item stands in a list
abbrev pub Stands : {A : Type 0} → List A → A → Type 0
Stands xs x = (k : ℕ) × (slice_get xs k ≡ Some x)

-- the only item of a list
pub stands-alone : {A : Type 0} (y x : A) → Stands (y ∷ []) x → y ≡ x
stands-alone y x s = at s.0 s.1
  where
    at : (k : ℕ) → slice_get (y ∷ []) k ≡ Some x → y ≡ x
    at zero e = same_Some y x e
    at (suc k) e = absurd (cc)

pub stands-none : {A : Type 0} (x : A) → Stands [] x → ⊥
stands-none x s = absurd (let e = s.1 in cc)

pub stands-later : {A : Type 0} (y : A) (xs : List A) (x : A) → Stands xs x → Stands (y ∷ xs) x
stands-later y xs x s = (suc s.0, s.1)

-- an item of a list is the first or stands behind it
pub stands-first : {A : Type 0} (y : A) (xs : List A) (x : A) → Stands (y ∷ xs) x → (y ≡ x) ⊎ Stands xs x
stands-first y xs x s = at s.0 s.1
  where
    at : (k : ℕ) → slice_get (y ∷ xs) k ≡ Some x → (y ≡ x) ⊎ Stands xs x
    at zero e = inl (same_Some y x e)
    at (suc k) e = inr (k, e)

pub stands-left : {A : Type 0} (xs ys : List A) (x : A) (k : ℕ) → slice_get xs k ≡ Some x → Stands (xs ++ ys) x
stands-left [] ys x k e = absurd (cc)
stands-left (z ∷ xs) ys x zero e = (0, e)
stands-left (z ∷ xs) ys x (suc k) e = stands-later z (xs ++ ys) x (stands-left xs ys x k e)

pub stands-right : {A : Type 0} (xs ys : List A) (x : A) → Stands ys x → Stands (xs ++ ys) x
stands-right [] ys x s = s
stands-right (z ∷ xs) ys x s = stands-later z (xs ++ ys) x (stands-right xs ys x s)

-- an item of two lists stands in one of them
pub stands-either : {A : Type 0} (xs ys : List A) (x : A) (k : ℕ) → slice_get (xs ++ ys) k ≡ Some x → Stands xs x ⊎ Stands ys x
stands-either [] ys x k e = inr (k, e)
stands-either (z ∷ xs) ys x zero e = inl (0, e)
stands-either (z ∷ xs) ys x (suc k) e = elim (stands-either xs ys x k e) [
  | inl front ↦ inl (stands-later z xs x front)
  | inr back ↦ inr back
]

module _ {A : Type 0} (number : A → ℕ) where
  -- an item that is put in order, and the others: none is lost, and none comes in
  put-out : (item x : A) (items : List A) → Stands (put_in_order number item items) x → Stands (item ∷ items) x
  put-out item x [] s = s
  put-out item x (next ∷ items) s = by (nat_lt (number next) (number item)) (λ s. put-out item x items s) s
    where
      behind : (item ≡ x) ⊎ Stands items x → Stands (item ∷ next ∷ items) x
      behind e = elim e [
        | inl here ↦ (0, ap (λ (y : A). Some y) here)
        | inr later ↦ (suc (suc later.0), later.1)
      ]

      either : (Stands (put_in_order number item items) x → Stands (item ∷ items) x) →
          (next ≡ x) ⊎ Stands (put_in_order number item items) x → Stands (item ∷ next ∷ items) x
      either out e = elim e [
        | inl here ↦ (1, ap (λ (y : A). Some y) here)
        | inr later ↦ behind (stands-first item items x (out later))
      ]

      by : (b : Bool) → (Stands (put_in_order number item items) x → Stands (item ∷ items) x) →
          Stands (if b then next ∷ put_in_order number item items else item ∷ next ∷ items) x → Stands (item ∷ next ∷ items) x
      by true out s = either out (stands-first next (put_in_order number item items) x s)
      by false out s = s

  put-in : (item x : A) (items : List A) → Stands (item ∷ items) x → Stands (put_in_order number item items) x
  put-in item x [] s = s
  put-in item x (next ∷ items) s = by (nat_lt (number next) (number item)) (λ s. put-in item x items s) s
    where
      below : (next ≡ x) ⊎ Stands items x → (Stands (item ∷ items) x → Stands (put_in_order number item items) x) →
          Stands (next ∷ put_in_order number item items) x
      below e into = elim e [
        | inl here ↦ (0, ap (λ (y : A). Some y) here)
        | inr later ↦ stands-later next (put_in_order number item items) x (into (stands-later item items x later))
      ]

      either : (item ≡ x) ⊎ Stands (next ∷ items) x → (Stands (item ∷ items) x → Stands (put_in_order number item items) x) →
          Stands (next ∷ put_in_order number item items) x
      either e into = elim e [
        | inl here ↦ stands-later next (put_in_order number item items) x (into (0, ap (λ (y : A). Some y) here))
        | inr later ↦ below (stands-first next items x later) into
      ]

      by : (b : Bool) → (Stands (item ∷ items) x → Stands (put_in_order number item items) x) → Stands (item ∷ next ∷ items) x →
          Stands (if b then next ∷ put_in_order number item items else item ∷ next ∷ items) x
      by true into s = either (stands-first item (next ∷ items) x s) into
      by false into s = s

  -- what stands in a list stands in it in order, and the other way round
  pub ordered-out : (items : List A) (x : A) → Stands (in_order number items) x → Stands items x
  ordered-out [] x s = s
  ordered-out (item ∷ items) x s = elim (stands-first item (in_order number items) x (put-out item x (in_order number items) s)) [
    | inl here ↦ (0, ap (λ (y : A). Some y) here)
    | inr later ↦ stands-later item items x (ordered-out items x later)
  ]

  pub ordered-in : (items : List A) (x : A) → Stands items x → Stands (in_order number items) x
  ordered-in [] x s = s
  ordered-in (item ∷ items) x s = put-in item x (in_order number items) (elim (stands-first item items x s) [
    | inl here ↦ (0, ap (λ (y : A). Some y) here)
    | inr later ↦ stands-later item (in_order number items) x (ordered-in items x later)
  ])
