-- Members that a test tells apart are found again at their places.
use Rattle.std.proofs.Common.{◌≡◌, ℕ, zero, suc, ◌+◌, ◌<◌, Bool, true, false, cond, if◌then◌else◌, nat_lt, List, ◌∷◌, ◌++◌, length, get_or, Some, ap, ◌∙◌, arith, []}
use Rattle.std.specs.List.{AllByRecursion, position_from}
use Rattle.plan_params.specs.Settings.{in_order, put_in_order}

-- 1 where a test passes
abbrev pub one_if : Bool → ℕ
one_if b = cond b 1 0

-- what holds of each
pub each : {A : Type 0} (P Q : A → Type 0) → ((x : A) → P x → Q x) → (xs : List A) → AllByRecursion P xs → AllByRecursion Q xs
each P Q step [] all = tt
each P Q step (x ∷ xs) all = (step x all.0, each P Q step xs all.1)

pub each-append : {A : Type 0} (P : A → Type 0) (xs ys : List A) → AllByRecursion P xs → AllByRecursion P ys → AllByRecursion P (xs ++ ys)
each-append P [] ys first second = second
each-append P (x ∷ xs) ys first second = (first.0, each-append P xs ys first.1 second)

pub each-at : {A : Type 0} (P : A → Type 0) (xs : List A) (k : ℕ) (d : A) → AllByRecursion P xs → k < length xs → P (get_or xs k d)
each-at P [] k d all within = absurd (omega (arith, within))
each-at P (x ∷ xs) zero d all within = all.0
each-at P (x ∷ xs) (suc k) d all within = each-at P xs k d all.1 (omega (arith, within))

put-each : {A : Type 0} (number : A → ℕ) (P : A → Type 0) (x : A) (xs : List A) → P x → AllByRecursion P xs →
    AllByRecursion P (put_in_order number x xs)
put-each number P x [] is are = (is, tt)
put-each number P x (next ∷ xs) is are =
    elim (nat_lt (number next) (number x)) as (λ b. AllByRecursion P (if b then next ∷ put_in_order number x xs else x ∷ next ∷ xs)) [
      | true ↦ (are.0, put-each number P x xs is are.1)
      | false ↦ (is, are)
    ]

-- what holds of each holds of each of them in order
pub order-each : {A : Type 0} (number : A → ℕ) (P : A → Type 0) (xs : List A) → AllByRecursion P xs → AllByRecursion P (in_order number xs)
order-each number P [] are = tt
order-each number P (x ∷ xs) are = put-each number P x (in_order number xs) are.0 (order-each number P xs are.1)

module _ {A : Type 0} (test : A → A → Bool) where
  -- none of two passes the test of the other
  abbrev pub IsOther : A → A → Type 0
  IsOther a b = (test a b ≡ false) × (test b a ≡ false)

  -- nor of any two members
  abbrev pub Apart : List A → Type 0
  Apart [] = Unit {0}
  Apart (x ∷ xs) = AllByRecursion (IsOther x) xs × Apart xs

  -- two lists whose members are apart, each from those of the other too
  pub apart-append : (xs ys : List A) → Apart xs → Apart ys → AllByRecursion (λ (x : A). AllByRecursion (IsOther x) ys) xs →
      Apart (xs ++ ys)
  apart-append [] ys first second between = second
  apart-append (x ∷ xs) ys first second between =
      (each-append (IsOther x) xs ys first.0 between.0, apart-append xs ys first.1 second between.1)

  put-apart : (number : A → ℕ) (x : A) (xs : List A) → AllByRecursion (IsOther x) xs → Apart xs → Apart (put_in_order number x xs)
  put-apart number x [] others apart = (tt, tt)
  put-apart number x (next ∷ xs) others apart =
      elim (nat_lt (number next) (number x)) as (λ b. Apart (if b then next ∷ put_in_order number x xs else x ∷ next ∷ xs)) [
        | true ↦ (put-each number (IsOther next) x xs (others.0.1, others.0.0) apart.0, put-apart number x xs others.1 apart.1)
        | false ↦ (others, apart)
      ]

  -- the order of the members changes nothing
  -- Being apart is asked both ways round (`IsOther`), so it does not hang on which of two comes first; the proof puts one member after
  -- another into the list in order, where it is other than each (`order-each`). So pieces and classes may be looked up in printed
  -- order.
  pub order-apart : (number : A → ℕ) (xs : List A) → Apart xs → Apart (in_order number xs)
  order-apart number [] apart = tt
  order-apart number (x ∷ xs) apart =
      put-apart number x (in_order number xs) (order-each number (IsOther x) xs apart.0) (order-apart number xs apart.1)

  abbrev IsOwn : Type 0
  IsOwn = (a : A) → test a a ≡ true

  -- the first that passes a member's test is that member
  -- A look-up by a member's own test passes over those before it, which are other than it, and stops at the member, whose test it
  -- passes itself (`IsOwn`). By this a block is found again by its first trip and a piece by block and index, which is how the tables
  -- of a plan name them.
  pub place-at : IsOwn → (xs : List A) (k from : ℕ) (d : A) → Apart xs → k < length xs →
      position_from (test (get_or xs k d)) from xs ≡ Some (from + k)
  place-at own [] k from d apart within = absurd (omega (arith, within))
  place-at own (x ∷ xs) zero from d apart within =
      let here : from ≡ from + 0 = omega arith in
      ap (λ (b : Bool). cond b (Some from) (position_from (test x) (from + 1) xs)) (own x) ∙ ap (λ (n : ℕ). Some n) here
  place-at own (x ∷ xs) (suc k) from d apart within =
      let other : IsOther x (get_or xs k d) = each-at (IsOther x) xs k d apart.0 (omega (arith, within)) in
      let later : from + 1 + k ≡ from + suc k = omega arith in
      ap (λ (b : Bool). cond b (Some from) (position_from (test (get_or xs k d)) (from + 1) xs)) other.1
      ∙ (place-at own xs k (from + 1) d apart.1 (omega (arith, within)) ∙ ap (λ (n : ℕ). Some n) later)
