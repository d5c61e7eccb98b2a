-- What each step does to the label of a number.
use Rattle.std.proofs.Common.{◌≡◌, ◌≢◌, ℕ, zero, suc, ◌<◌, List, [], ◌∷◌, ◌++◌, length, set, refl, ap, subst, ◌∙◌, arith, eq-eqb, ne_eqb}
use Rattle.std.specs.Prelude.{Option, Some, None, IsSome, slice_get}
use Rattle.std.proofs.lemmas.Option.{slice_get_past, slice_get_within}
use native.Mathlib.Decide.{ℕ_discrete}
use Rattle.label_region.specs.Shelf.{Shelf, shelf, label_at, IsLive, times}
use Rattle.label_region.proofs.Counts.{times_more, times_last}

module _ {X : Type 0} where
  get-set_same : (xs : List X) (i : ℕ) (x : X) → i < length xs → slice_get (set xs i x) i ≡ Some x
  get-set_same [] i x l = absurd (omega arith)
  get-set_same (y ∷ ys) zero x l = refl
  get-set_same (y ∷ ys) (suc i) x l = get-set_same ys i x (omega arith)

  get-set_other : (xs : List X) (i j : ℕ) (x : X) → j ≢ i → slice_get (set xs i x) j ≡ slice_get xs j
  get-set_other [] i j x n = refl
  get-set_other (y ∷ ys) zero zero x n = absurd (n refl)
  get-set_other (y ∷ ys) zero (suc j) x n = refl
  get-set_other (y ∷ ys) (suc i) zero x n = refl
  get-set_other (y ∷ ys) (suc i) (suc j) x n = get-set_other ys i j x (λ e. n (ap suc e))

  get-push_same : (xs : List X) (x : X) → slice_get (xs ++ x ∷ []) (length xs) ≡ Some x
  get-push_same [] x = refl
  get-push_same (y ∷ ys) x = get-push_same ys x

  get-push_other : (xs : List X) (x : X) (j : ℕ) → j ≢ length xs → slice_get (xs ++ x ∷ []) j ≡ slice_get xs j
  get-push_other [] x zero n = absurd (n refl)
  get-push_other [] x (suc j) n = refl
  get-push_other (y ∷ ys) x zero n = refl
  get-push_other (y ∷ ys) x (suc j) n = get-push_other ys x j (λ e. n (ap suc e))

  label_free : (s : Shelf X) (id : ℕ) → times id s.back ≡ 0 → label_at s id ≡ slice_get s.cells id
  label_free s id z = rw (eq-eqb (times id s.back) 0 z) refl

  label_back : (s : Shelf X) (id : ℕ) → times id s.back ≢ 0 → label_at s id ≡ None
  label_back s id n = rw (ne_eqb (times id s.back) 0 n) refl

  within : (s : Shelf X) (id : ℕ) (o : Option X) → slice_get s.cells id ≡ o → IsSome o → id < length s.cells
  within s id None e h = absurd (cc)
  within s id (Some x) e h = slice_get_within s.cells id x e

  -- a live number was used before, and is not among those given back
  pub live_parts : (s : Shelf X) (id : ℕ) → IsLive s id → (id < length s.cells) × (times id s.back ≡ 0)
  live_parts s id live = elim (ℕ_discrete (times id s.back) 0) [
    | yes z ↦ (within s id (slice_get s.cells id) refl (subst (λ (o : Option X). IsSome o) (label_free s id z) live), z)
    | no n ↦ let none : IsSome (label_at s id) = live in absurd (cc (label_back s id n))
  ]

  -- labels depend on the cells and on what was given back alone
  pub label_gone : (cells : List X) (back : List ℕ) (id spare : ℕ) → label_at (shelf cells (back ++ id ∷ []) spare) id ≡ None
  label_gone cells back id spare = label_back (shelf cells (back ++ id ∷ []) spare) id (λ e. let p = times_last id back in omega arith)

  pub label_stays : (cells : List X) (back : List ℕ) (id spare more other : ℕ) → other ≢ id →
      label_at (shelf cells (back ++ id ∷ []) spare) other ≡ label_at (shelf cells back more) other
  label_stays cells back id spare more other n = rw (times_more other id back n) refl

  pub label_set : (cells : List X) (back : List ℕ) (id spare : ℕ) (label : X) → id < length cells → times id back ≡ 0 →
      label_at (shelf (set cells id label) back spare) id ≡ Some label
  label_set cells back id spare label l z = label_free (shelf (set cells id label) back spare) id z ∙ get-set_same cells id label l

  pub label_unset : (cells : List X) (back : List ℕ) (id spare more other : ℕ) (label : X) → other ≢ id →
      label_at (shelf (set cells id label) back spare) other ≡ label_at (shelf cells (back ++ id ∷ []) more) other
  label_unset cells back id spare more other label n = rw (times_more other id back n, get-set_other cells id other label n) refl

  pub label_new : (cells : List X) (spare : ℕ) (label : X) → label_at (shelf (cells ++ label ∷ []) [] spare) (length cells) ≡ Some label
  label_new cells spare label = get-push_same cells label

  pub label_old : (cells : List X) (spare more other : ℕ) (label : X) → other ≢ length cells →
      label_at (shelf (cells ++ label ∷ []) [] spare) other ≡ label_at (shelf cells [] more) other
  label_old cells spare more other label n = get-push_other cells label other n

  pub label_past : (cells : List X) (spare : ℕ) → label_at (shelf cells [] spare) (length cells) ≡ None
  label_past cells spare = slice_get_past cells (length cells) (omega arith)
