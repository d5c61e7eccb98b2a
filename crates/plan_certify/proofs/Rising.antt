-- Lists in strictly rising order with the same members are the same list.
use Rattle.std.proofs.Common.{◌≡◌, ◌⊎◌, inl, inr, ◌<◌, zero, suc, List, [], ◌∷◌, length, refl, sym, ap, ◌∙◌, subst, arith}
use Rattle.std.proofs.lemmas.Option.{slice_get_within, get_or_from_slice_get, same_Some}
use Rattle.std.specs.Prelude.{AllPairs}
use Rattle.std.specs.declared.cmp.Ordering.{Ordering}
use Rattle.std.specs.declared.cmp.Ordering.TheVariants.{Less, Greater}
use Rattle.std.specs.Cmp.{IsTotalOrder}
use Rattle.std.specs.Ordering.{ordering_reverse}
use Rattle.mark_cover.specs.Covers.{StandsIn}

module _ {L : Type 0} (order : L → L → Ordering) where
  abbrev Rises : List L → Type 0
  Rises xs = AllPairs (λ (a b : L). order a b ≡ Less) xs

  -- no two members come before one another
  abbrev pub HasNoTies : Type 0
  HasNoTies = (a b : L) → order a b ≡ Less → order b a ≡ Less → ⊥

  -- the first member comes before each later one
  first-less : (x : L) (xs : List L) (a : L) → Rises (x ∷ xs) → StandsIn xs a → order x a ≡ Less
  first-less x xs a rises (k, e) =
      let there : k < length xs = slice_get_within xs k a e in
      let P : L → Type 0 = λ b. order x b ≡ Less in
      subst P (get_or_from_slice_get xs k a a e) (rises zero (suc k) a (omega arith) (omega arith))

  tail-rises : (x : L) (xs : List L) → Rises (x ∷ xs) → Rises xs
  tail-rises x xs rises = λ i j d less there. rises (suc i) (suc j) d (omega arith) (omega arith)

  -- a member is the first one or a later one
  first-or-later : (x : L) (xs : List L) (a : L) → StandsIn (x ∷ xs) a → (x ≡ a) ⊎ StandsIn xs a
  first-or-later x xs a (zero, e) = inl (same_Some x a e)
  first-or-later x xs a (suc k, e) = inr (k, e)

  later : (x : L) (xs : List L) (a : L) → StandsIn xs a → StandsIn (x ∷ xs) a
  later x xs a (k, e) = (suc k, e)

  none-stands : {A : Type 0} (a : L) → StandsIn [] a → A
  none-stands a (k, e) = absurd (cc)

  -- of the first members of two lists none comes before the other
  -- Were they different, each would stand behind the other in the other list and so come after it in the order, which is a tie.
  first-same : HasNoTies → (x y : L) (xs ys : List L) → Rises (x ∷ xs) → Rises (y ∷ ys) → StandsIn (y ∷ ys) x → StandsIn (x ∷ xs) y → x ≡ y
  first-same apart x y xs ys up down in_ys in_xs =
      elim (first-or-later y ys x in_ys) [
        | inl same ↦ sym same
        | inr far ↦ elim (first-or-later x xs y in_xs) [
          | inl same ↦ same
          | inr near ↦ absurd (apart x y (first-less x xs y up near) (first-less y ys x down far))
        ]
      ]

  not-itself : HasNoTies → (x a : L) → x ≡ a → order x a ≡ Less → ⊥
  not-itself apart x a same less =
      let P : L → Type 0 = λ b. order x b ≡ Less in
      let tie = subst P (sym same) less in
      apart x x tie tie

  -- what stands behind the first member of the one list stands behind that of the other
  behind : HasNoTies → (x : L) (xs ys : List L) → Rises (x ∷ xs) → ((a : L) → StandsIn (x ∷ xs) a → StandsIn (x ∷ ys) a) → (a : L) →
      StandsIn xs a → StandsIn ys a
  behind apart x xs ys up onto a stands =
      elim (first-or-later x ys a (onto a (later x xs a stands))) [
        | inl same ↦ absurd (not-itself apart x a same (first-less x xs a up stands))
        | inr far ↦ far
      ]

  -- Induction over both lists. The first members are the same (`first-same`); what stands behind the first in one list stands behind
  -- it in the other, since it comes after it in the order and so is not it (`behind`). So a set of marks has one list, and
  -- certificates may be compared as lists.
  pub same-rising : HasNoTies → (xs ys : List L) → Rises xs → Rises ys → ((a : L) → StandsIn xs a → StandsIn ys a) →
      ((a : L) → StandsIn ys a → StandsIn xs a) → xs ≡ ys
  same-rising apart [] [] up down onto from = refl
  same-rising apart [] (y ∷ ys) up down onto from = none-stands y (from y (zero, refl))
  same-rising apart (x ∷ xs) [] up down onto from = none-stands x (onto x (zero, refl))
  same-rising apart (x ∷ xs) (y ∷ ys) up down onto from =
      let first : x ≡ y = first-same apart x y xs ys up down (onto x (zero, refl)) (from y (zero, refl)) in
      let P : L → Type 0 = λ z. (a : L) → StandsIn (x ∷ xs) a → StandsIn (z ∷ ys) a in
      let Q : L → Type 0 = λ z. (a : L) → StandsIn (z ∷ ys) a → StandsIn (x ∷ xs) a in
      let R : L → Type 0 = λ z. Rises (z ∷ ys) in
      let rest : xs ≡ ys = same-rising apart xs ys (tail-rises x xs up) (tail-rises y ys down)
      (behind apart x xs ys up (subst P (sym first) onto))
      (behind apart x ys xs (subst R (sym first) down) (subst Q (sym first) from)) in
      ap (λ z. z ∷ xs) first ∙ ap (λ zs. y ∷ zs) rest

  pub no-ties : IsTotalOrder order → HasNoTies
  no-ties total a b less more =
      let flipped = total.antisymm a b in
      let P : Ordering → Type 0 = λ o. order a b ≡ ordering_reverse o in
      let back : Less ≡ Greater = sym less ∙ subst P more flipped in
      absurd (cc)
