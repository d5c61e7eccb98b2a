-- The first places of a row hold its labels.
use Rattle.std.proofs.Common.{◌≡◌, ℕ, zero, suc, ◌+◌, ◌<◌, ◌≤◌, List, [], ◌∷◌, ◌++◌, length, take, set, get_or, map, refl, sym, ap, ◌∙◌, arith, add-one}
use Rattle.std.specs.Prelude.{Option, Some, None, slice_get}
use Rattle.std.proofs.Math.Seq.{take-suc, take-suc-set}
use Rattle.std.proofs.lemmas.List.{get_or-take, length-map, length-set, length-take-le, map-append}
use Rattle.label_region.specs.Places.{IsFilled, values}
use Rattle.label_region.specs.Rows.{row, places_of, IsFilledTo, labels_of}

module _ {X : Type 0} where
  values-map : (xs : List X) → values (map Some xs) ≡ xs
  values-map [] = refl
  values-map (x ∷ xs) = ap (λ (ys : List X). x ∷ ys) (values-map xs)

  get_or-map : (xs : List X) (i : ℕ) → get_or (map Some xs) i None ≡ slice_get xs i
  get_or-map [] i = refl
  get_or-map (x ∷ xs) zero = refl
  get_or-map (x ∷ xs) (suc i) = get_or-map xs i

  set-map : (xs : List X) (i : ℕ) (x : X) → set (map Some xs) i (Some x) ≡ map Some (set xs i x)
  set-map [] i x = refl
  set-map (y ∷ ys) zero x = refl
  set-map (y ∷ ys) (suc i) x = ap (λ (l : List (Option X)). Some y ∷ l) (set-map ys i x)

  take-set_within : (n : ℕ) (ps : List (Option X)) (i : ℕ) (p : Option X) → take n (set ps i p) ≡ set (take n ps) i p
  take-set_within zero ps i p = refl
  take-set_within (suc n) [] i p = refl
  take-set_within (suc n) (q ∷ ps) zero p = refl
  take-set_within (suc n) (q ∷ ps) (suc i) p = ap (λ (l : List (Option X)). q ∷ l) (take-set_within n ps i p)

  one_there : (xs : List X) (i : ℕ) → i < length xs → (x : X) × (slice_get xs i ≡ Some x)
  one_there [] i lt = absurd (omega arith)
  one_there (x ∷ xs) zero lt = (x, refl)
  one_there (x ∷ xs) (suc i) lt = one_there xs i (omega arith)

  -- the labels are those that the first places are found to hold
  pub labels_are : (n : ℕ) (ps : List (Option X)) (xs : List X) → take n ps ≡ map Some xs → labels_of n ps ≡ xs
  labels_are n ps xs e = ap values e ∙ values-map xs

  -- How a row of places is read as a list of labels: where the first n places are found to hold the labels `xs`, they are filled and
  -- `xs` is the list that contracts see. Each of the steps below (a label changed, put behind, copied) shows first what the first n
  -- places hold after it, and gets both the invariant of `Block` and its view from that one fact, by this lemma and `labels_are`.
  pub filled_by : (n : ℕ) (ps : List (Option X)) (xs : List X) → n ≤ length ps → take n ps ≡ map Some xs → IsFilledTo n ps
  filled_by n ps xs within e = record { within = within; filled = e ∙ ap (λ (l : List X). map Some l) (sym (labels_are n ps xs e)) }

  pub length-labels_of : (n : ℕ) (ps : List (Option X)) → IsFilledTo n ps → length (labels_of n ps) ≡ n
  length-labels_of n ps h = sym (length-map (labels_of n ps) Some) ∙ sym (ap length h.filled) ∙ length-take-le n ps h.within

  -- What a place holds is the label at its index: the first n places are the labels, each in a `Some`, so looking up a place below n
  -- and looking up the list give the same. With `place_filled`, that such a place is not empty, it is why `Block.get` may read the
  -- place.
  pub place_is : (n : ℕ) (ps : List (Option X)) (i : ℕ) → IsFilledTo n ps → i < n → get_or ps i None ≡ slice_get (labels_of n ps) i
  place_is n ps i h lt = sym (get_or-take n ps i None lt) ∙ ap (λ (l : List (Option X)). get_or l i None) h.filled
      ∙ get_or-map (labels_of n ps) i

  pub place_filled : (n : ℕ) (ps : List (Option X)) (i : ℕ) → IsFilledTo n ps → i < n → IsFilled ps i
  place_filled n ps i h lt =
      let long = length-labels_of n ps h in
      let there = one_there (labels_of n ps) i (omega arith) in (there.0, place_is n ps i h lt ∙ there.1)

  -- a label is changed
  set_first : (n : ℕ) (ps : List (Option X)) (i : ℕ) (x : X) → IsFilledTo n ps →
      take n (set ps i (Some x)) ≡ map Some (set (labels_of n ps) i x)
  set_first n ps i x h = take-set_within n ps i (Some x) ∙ ap (λ (l : List (Option X)). set l i (Some x)) h.filled
      ∙ set-map (labels_of n ps) i x

  pub set_filled : (n : ℕ) (ps : List (Option X)) (i : ℕ) (x : X) → IsFilledTo n ps → IsFilledTo n (set ps i (Some x))
  set_filled n ps i x h = let within = h.within in let long = length-set ps i (Some x) in
      filled_by n (set ps i (Some x)) (set (labels_of n ps) i x) (omega arith) (set_first n ps i x h)

  pub labels_of-set : (n : ℕ) (ps : List (Option X)) (i : ℕ) (x : X) → IsFilledTo n ps →
      labels_of n (set ps i (Some x)) ≡ set (labels_of n ps) i x
  labels_of-set n ps i x h = labels_are n (set ps i (Some x)) (set (labels_of n ps) i x) (set_first n ps i x h)

  -- a label is put behind the others
  push_first : (n : ℕ) (ps : List (Option X)) (x : X) → IsFilledTo n ps → n < length ps →
      take (n + 1) (set ps n (Some x)) ≡ map Some (labels_of n ps ++ x ∷ [])
  push_first n ps x h lt =
      rw add-one (take-suc-set ps n (Some x) lt ∙ ap (λ (l : List (Option X)). l ++ Some x ∷ []) h.filled
      ∙ sym (map-append Some (labels_of n ps) (x ∷ [])))

  pub push_filled : (n : ℕ) (ps : List (Option X)) (x : X) → IsFilledTo n ps → n < length ps → IsFilledTo (n + 1) (set ps n (Some x))
  push_filled n ps x h lt = let long = length-set ps n (Some x) in
      filled_by (n + 1) (set ps n (Some x)) (labels_of n ps ++ x ∷ []) (omega arith) (push_first n ps x h lt)

  pub labels_of-push : (n : ℕ) (ps : List (Option X)) (x : X) → IsFilledTo n ps → n < length ps →
      labels_of (n + 1) (set ps n (Some x)) ≡ labels_of n ps ++ x ∷ []
  labels_of-push n ps x h lt = labels_are (n + 1) (set ps n (Some x)) (labels_of n ps ++ x ∷ []) (push_first n ps x h lt)

  -- The step of the loop that copies labels to wider memory: where the first i places are the same on both sides and the next one
  -- holds a label, they are the same up to i + 1 after it was written. Only the places that were copied are spoken of, so it does
  -- not matter what the wider memory held. With `copied_filled` and `labels_of-copied` the block holds the same labels after `grow`.
  pub copied_more : (i : ℕ) (from to : List (Option X)) (x : X) → take i to ≡ take i from → i < length from → i < length to →
      get_or from i None ≡ Some x
      → take (i + 1) (set to i (Some x)) ≡ take (i + 1) from
  copied_more i from to x same lt room holds =
      rw add-one (take-suc-set to i (Some x) room ∙ ap (λ (l : List (Option X)). l ++ Some x ∷ []) same
      ∙ ap (λ (p : Option X). take i from ++ p ∷ []) (sym holds) ∙ sym (take-suc from i None lt))

  -- the labels are where they were copied to
  pub copied_filled : (n : ℕ) (from to : List (Option X)) → IsFilledTo n from → n ≤ length to → take n to ≡ take n from → IsFilledTo n to
  copied_filled n from to h within same = filled_by n to (labels_of n from) within (same ∙ h.filled)

  pub labels_of-copied : (n : ℕ) (from to : List (Option X)) → take n to ≡ take n from → labels_of n to ≡ labels_of n from
  labels_of-copied n from to same = ap values same

  -- the same of a block
  pub row-set : (n : ℕ) (ps : List (Option X)) (i : ℕ) (x : X) → IsFilledTo n ps →
      row (labels_of n (set ps i (Some x))) (length (set ps i (Some x))) ≡ row (set (labels_of n ps) i x) (length ps)
  row-set n ps i x h = λ j. row (labels_of-set n ps i x h j) (length-set ps i (Some x) j)

  pub row-push : (n : ℕ) (ps : List (Option X)) (x : X) → IsFilledTo n ps → n < length ps
      → row (labels_of (n + 1) (set ps n (Some x))) (length (set ps n (Some x))) ≡ row (labels_of n ps ++ x ∷ []) (length ps)
  row-push n ps x h lt = λ j. row (labels_of-push n ps x h lt j) (length-set ps n (Some x) j)

  -- with no memory there are no labels
  pub none_filled : (n : ℕ) (places : Option (List (Option X))) → places ≡ None → IsFilledTo n (places_of places) → n ≡ 0
  none_filled n None e h = let within = h.within in omega arith
  none_filled n (Some ps) e h = cc

  pub no_places : (places : Option (List (Option X))) → places ≡ None → length (places_of places) ≡ 0
  no_places None e = refl
  no_places (Some ps) e = cc
