-- The one row that passes a test.
use Rattle.std.proofs.Common.{◌≡◌, ℕ, ◌+◌, ◌<◌, ◌≤◌, Bool, true, false, zero, suc, List, [], ◌∷◌, length, filter, drop, get_or, Some, refl, sym, ap, ◌∙◌, arith, add-one, drop-cons, if◌then◌else◌}
use Rattle.std.specs.Prelude.{unwrap_or}
use Rattle.std.specs.List.{find, list_all}
use Rattle.std.proofs.lemmas.Bool.{and_parts}
use Rattle.std.proofs.lemmas.List.{drop_all}

module _ {A : Type 0} (p : A → Bool) where
  drop_first : (xs : List A) (i : ℕ) (x : A) → i < length xs → x ≡ get_or xs i x → drop i xs ≡ x ∷ drop (i + 1) xs
  drop_first xs i x within is = rw add-one (drop-cons xs i x within ∙ ap (λ y. y ∷ drop (suc i) xs) (sym is))

  find_first : (x : A) (xs : List A) → p x ≡ true → find p (x ∷ xs) ≡ Some x
  find_first x xs e = by (p x) e
    where
      by : (b : Bool) → b ≡ true → (if b then Some x else find p xs) ≡ Some x
      by true e = refl
      by false e = absurd (cc)

  find_later : (x : A) (xs : List A) → p x ≡ false → find p (x ∷ xs) ≡ find p xs
  find_later x xs e = by (p x) e
    where
      by : (b : Bool) → b ≡ false → (if b then Some x else find p xs) ≡ find p xs
      by true e = absurd (cc)
      by false e = refl

  filter_first : (x : A) (xs : List A) → p x ≡ true → length (filter p (x ∷ xs)) ≡ suc (length (filter p xs))
  filter_first x xs e = by (p x) e
    where
      by : (b : Bool) → b ≡ true → length (if b then x ∷ filter p xs else filter p xs) ≡ suc (length (filter p xs))
      by true e = refl
      by false e = absurd (cc)

  filter_later : (x : A) (xs : List A) → p x ≡ false → length (filter p (x ∷ xs)) ≡ length (filter p xs)
  filter_later x xs e = by (p x) e
    where
      by : (b : Bool) → b ≡ false → length (if b then x ∷ filter p xs else filter p xs) ≡ length (filter p xs)
      by true e = absurd (cc)
      by false e = refl

  pub found_here : (xs : List A) (i : ℕ) (x d : A) → i < length xs → x ≡ get_or xs i x → p x ≡ true → find p xs ≡ find p (drop i xs) →
      x ≡ unwrap_or (find p xs) d
  found_here xs i x d within is passes so_far =
      let e : find p xs ≡ Some x = so_far ∙ ap (λ ys. find p ys) (drop_first xs i x within is) ∙ find_first x (drop (i + 1) xs) passes in
      sym (ap (λ o. unwrap_or o d) e)

  pub find_more : (xs : List A) (i : ℕ) (x : A) → i < length xs → x ≡ get_or xs i x → p x ≡ false → find p xs ≡ find p (drop i xs) →
      find p xs ≡ find p (drop (i + 1) xs)
  find_more xs i x within is fails so_far =
      so_far ∙ ap (λ ys. find p ys) (drop_first xs i x within is) ∙ find_later x (drop (i + 1) xs) fails

  pub one_more : (xs : List A) (i : ℕ) (x : A) → i < length xs → x ≡ get_or xs i x → p x ≡ false → length (filter p (drop i xs)) ≡ 1 →
      length (filter p (drop (i + 1) xs)) ≡ 1
  one_more xs i x within is fails so_far =
      let e : length (filter p (drop i xs)) ≡ length (filter p (drop (i + 1) xs)) =
      ap (λ ys. length (filter p ys)) (drop_first xs i x within is) ∙ filter_later x (drop (i + 1) xs) fails in
      sym e ∙ so_far

  pub none_left : (xs : List A) (i : ℕ) → length xs ≤ i → length (filter p (drop i xs)) ≡ 1 → ⊥
  none_left xs i past one =
      let e : length (filter p (drop i xs)) ≡ 0 = ap (λ ys. length (filter p ys)) (drop_all i xs past) in
      omega (arith, e, one)

  some_passes : (xs : List A) (i : ℕ) (x : A) → i < length xs → x ≡ get_or xs i x → p x ≡ true → 1 ≤ length (filter p xs)
  some_passes [] i x within is passes = absurd (omega (arith, within))
  some_passes (y ∷ xs) zero x within is passes = omega (arith, filter_first y xs (ap p (sym is) ∙ passes))
  some_passes (y ∷ xs) (suc i) x within is passes = by (p y) refl (some_passes xs i x (omega (arith, within)) is passes)
    where
      by : (b : Bool) → p y ≡ b → 1 ≤ length (filter p xs) → 1 ≤ length (filter p (y ∷ xs))
      by true e later = omega (arith, filter_first y xs e)
      by false e later = omega (arith, filter_later y xs e, later)

  -- Where one passes it is the first that does. If an earlier one passed, two would, as the one at the place passes too
  -- (`some_passes`). So it does not matter in which way the row of a trip is found: the place that was told for it, or a search from
  -- the first row on, give the same row.
  pub one_found : (xs : List A) (i : ℕ) (x : A) → i < length xs → x ≡ get_or xs i x → p x ≡ true →
      length (filter p xs) ≡ 1 → find p xs ≡ Some x
  one_found [] i x within is passes one = absurd (omega (arith, within))
  one_found (y ∷ xs) zero x within is passes one = find_first y xs (ap p (sym is) ∙ passes) ∙ ap (λ z. Some z) (sym is)
  one_found (y ∷ xs) (suc i) x within is passes one =
      by (p y) refl (some_passes xs i x (omega (arith, within)) is passes) (λ rest. one_found xs i x (omega (arith, within)) is passes rest)
    where
      by : (b : Bool) → p y ≡ b → 1 ≤ length (filter p xs) → (length (filter p xs) ≡ 1 → find p xs ≡ Some x) → find p (y ∷ xs) ≡ Some x
      by true e later found = absurd (omega (arith, filter_first y xs e, later, one))
      by false e later found = find_later y xs e ∙ found (sym (filter_later y xs e) ∙ one)

  -- what holds of all holds of the one that is found
  pub found_holds : (q : A → Bool) (xs : List A) (d : A) → length (filter p xs) ≡ 1 → list_all q xs ≡ true →
      q (unwrap_or (find p xs) d) ≡ true
  found_holds q [] d one all = absurd (omega (arith, one))
  found_holds q (x ∷ xs) d one all = by (p x) refl (λ rest. found_holds q xs d rest (and_parts (q x) (list_all q xs) all).1)
    where
      by : (b : Bool) → p x ≡ b → (length (filter p xs) ≡ 1 → q (unwrap_or (find p xs) d) ≡ true) → q (unwrap_or (find p (x ∷ xs)) d) ≡ true
      by true e later = ap (λ o. q (unwrap_or o d)) (find_first x xs e) ∙ (and_parts (q x) (list_all q xs) all).0
      by false e later = ap (λ o. q (unwrap_or o d)) (find_later x xs e) ∙ later (sym (filter_later x xs e) ∙ one)
