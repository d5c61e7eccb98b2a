-- Items at places of lists.
use Rattle.std.proofs.Common.{◌≡◌, ℕ, ◌+◌, ◌<◌, ◌≤◌, ◌||◌, Bool, true, false, cond, zero, suc, List, [], ◌∷◌, ◌++◌, length, take, drop, drop-cons, get_or, add-one, refl, sym, ap, ◌∙◌, arith}
use Rattle.std.specs.Prelude.{filter}
use Rattle.std.specs.List.{list_any}
use Rattle.std.proofs.lemmas.List.{length-append, length-take-le}
use Rattle.label_search.specs.Nodes.{without}

module _ {X : Type 0} where
  pub drop-at : (xs : List X) (i : ℕ) (x : X) → i < length xs → x ≡ get_or xs i x → drop i xs ≡ x ∷ drop (i + 1) xs
  drop-at xs i x below is =
      let e : drop i xs ≡ get_or xs i x ∷ drop (suc i) xs = drop-cons xs i x below in
      rw add-one (e ∙ ap (λ (y : X). y ∷ drop (suc i) xs) (sym is))

  pub drop-past : (xs : List X) (i : ℕ) → length xs ≤ i → drop i xs ≡ []
  drop-past [] zero h = refl
  drop-past [] (suc i) h = refl
  drop-past (x ∷ xs) zero h = absurd (omega arith)
  drop-past (x ∷ xs) (suc i) h = drop-past xs i (omega arith)

  -- whether some item passes a test
  pub any-here : (p : X → Bool) (xs : List X) (i : ℕ) (x : X) → list_any p xs ≡ list_any p (drop i xs) → i < length xs → x ≡ get_or xs i x →
      p x ≡ true → true ≡ list_any p xs
  any-here p xs i x so_far below is test =
      sym (so_far ∙ ap (list_any p) (drop-at xs i x below is) ∙ ap (λ b. b || list_any p (drop (i + 1) xs)) test)

  pub any-next : (p : X → Bool) (xs : List X) (i : ℕ) (x : X) → list_any p xs ≡ list_any p (drop i xs) → i < length xs → x ≡ get_or xs i x →
      p x ≡ false → list_any p xs ≡ list_any p (drop (i + 1) xs)
  any-next p xs i x so_far below is test =
      so_far ∙ ap (list_any p) (drop-at xs i x below is) ∙ ap (λ b. b || list_any p (drop (i + 1) xs)) test

  pub any-end : (p : X → Bool) (xs : List X) (i : ℕ) → list_any p xs ≡ list_any p (drop i xs) → length xs ≤ i → false ≡ list_any p xs
  any-end p xs i so_far past = sym (so_far ∙ ap (list_any p) (drop-past xs i past))

  take-drop : (xs : List X) (i : ℕ) → take i xs ++ drop i xs ≡ xs
  take-drop [] zero = refl
  take-drop [] (suc i) = refl
  take-drop (x ∷ xs) zero = refl
  take-drop (x ∷ xs) (suc i) = ap (λ (l : List X). x ∷ l) (take-drop xs i)

  -- the item at a place, taken out or not
  pub without-out : (p : X → Bool) (xs : List X) (i : ℕ) (x : X) → i < length xs → x ≡ get_or xs i x → p x ≡ false →
      take i xs ++ drop (i + 1) xs ≡ without p i xs
  without-out p xs i x below is test =
      let here : filter p (take 1 (drop i xs)) ≡ [] =
      ap (λ (l : List X). filter p (take 1 l)) (drop-at xs i x below is) ∙ ap (λ b. cond b (x ∷ []) []) test in
      sym (ap (λ (l : List X). take i xs ++ (l ++ drop (i + 1) xs)) here)

  pub without-stays : (p : X → Bool) (xs : List X) (i : ℕ) (x : X) → i < length xs → x ≡ get_or xs i x → p x ≡ true → xs ≡ without p i xs
  without-stays p xs i x below is test =
      let here : filter p (take 1 (drop i xs)) ≡ x ∷ [] =
      ap (λ (l : List X). filter p (take 1 l)) (drop-at xs i x below is) ∙ ap (λ b. cond b (x ∷ []) []) test in
      sym (ap (λ (l : List X). take i xs ++ (l ++ drop (i + 1) xs)) here
      ∙ ap (λ (l : List X). take i xs ++ l) (sym (drop-at xs i x below is)) ∙ take-drop xs i)

  filter-one : (p : X → Bool) (x : X) (xs : List X) (b : Bool) → cond b (x ∷ []) [] ++ filter p xs ≡ cond b (x ∷ filter p xs) (filter p xs)
  filter-one p x xs true = refl
  filter-one p x xs false = refl

  -- Taking items out from the last place back: those behind the place have been tested, and those before it stand where they were.
  -- So the place of the next item to be tested is not moved by what was taken out behind it, and at place 0 the list is what a
  -- filter leaves, in its order.
  out-back : (p : X → Bool) (xs : List X) (i : ℕ) → i < length xs →
      take i (take (suc i) xs ++ filter p (drop (suc i) xs))
      ++ (filter p (take 1 (drop i (take (suc i) xs ++ filter p (drop (suc i) xs))))
      ++ drop (suc i) (take (suc i) xs ++ filter p (drop (suc i) xs)))
      ≡ take i xs ++ filter p (drop i xs)
  out-back p [] i h = absurd (omega arith)
  out-back p (x ∷ xs) zero h = filter-one p x xs (p x)
  out-back p (x ∷ xs) (suc i) h = ap (λ (l : List X). x ∷ l) (out-back p xs i (omega arith))

  pub out-step : (p : X → Bool) (xs made new : List X) (i : ℕ) → i < length xs → made ≡ take (i + 1) xs ++ filter p (drop (i + 1) xs) →
      new ≡ without p i made → new ≡ take i xs ++ filter p (drop i xs)
  out-step p xs made new i below is e =
      let is' : made ≡ take (suc i) xs ++ filter p (drop (suc i) xs) = rw add-one at is in
      let e' : new ≡ take i made ++ (filter p (take 1 (drop i made)) ++ drop (suc i) made) = rw add-one at e in
      e' ∙ ap (λ (l : List X). take i l ++ (filter p (take 1 (drop i l)) ++ drop (suc i) l)) is' ∙ out-back p xs i below

  pub out-within : (p : X → Bool) (xs made : List X) (i : ℕ) → i < length xs →
      made ≡ take (i + 1) xs ++ filter p (drop (i + 1) xs) → i < length made
  out-within p xs made i below is =
      omega (
        arith,
        ap (λ (l : List X). length l) is,
        length-append (take (i + 1) xs) (filter p (drop (i + 1) xs)),
        length-take-le (i + 1) xs (omega arith),
      )
