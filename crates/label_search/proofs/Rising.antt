-- Lists with labels rise, and have items that are there.
use Rattle.std.proofs.Common.{◌≡◌, ℕ, ℤ, Bool, ◌≤◌, List, [], ◌∷◌, refl, subst, arith}
use Rattle.std.specs.Prelude.{Option, Some, None}
use Rattle.cover_core.specs.Cover.{Rises, AllBelow}
use Rattle.cover_core.specs.Labels.{Labelling, label_after, label_of}
use Rattle.label_search.specs.Answers.{IsLeastClosed}
use Rattle.label_search.specs.Laws.{IsStepwise}
use Rattle.label_search.specs.Limits.{limited}
use Rattle.label_search.proofs.Limits.{from-limited}

after-rises : {L : Type 0} (w : Labelling L) (count : ℕ) (last : L → ℕ) → IsStepwise w count last → (xs : List ℕ) (a b : L) →
    label_after w (Some a) xs ≡ Some b → Rises (last a ∷ xs) × AllBelow count xs
after-rises w count last s [] a b e = (tt, tt)
after-rises {L = L} w count last s (x ∷ xs) a b e =
    elim (w.extend a x) as (λ o. w.extend a x ≡ o → label_after w o xs ≡ Some b → Rises (last a ∷ x ∷ xs) × AllBelow count (x ∷ xs)) [
      | None ↦ λ is e'. absurd (cc)
      | Some c ↦ λ is e'.
          let (up, there, last_is) = s.steps a c x is in
          let (rises, below) = after-rises w count last s xs c b e' in
          let P : ℕ → Type 0 = λ n. Rises (n ∷ xs) in
          ((up, subst P last_is rises), (there, below))
    ] refl e

pub label-rises : {L : Type 0} (w : Labelling L) (count : ℕ) (last : L → ℕ) → IsStepwise w count last → (xs : List ℕ) (b : L) →
    label_of w xs ≡ Some b → Rises xs × AllBelow count xs
label-rises w count last s [] b e = absurd (cc)
label-rises {L = L} w count last s (x ∷ xs) b e =
    elim (w.start x) as (λ o. w.start x ≡ o → label_after w o xs ≡ Some b → Rises (x ∷ xs) × AllBelow count (x ∷ xs)) [
      | None ↦ λ is e'. absurd (cc)
      | Some c ↦ λ is e'.
          let (there, last_is) = s.starts x c is in
          let (rises, below) = after-rises w count last s xs c b e' in
          let P : ℕ → Type 0 = λ n. Rises (n ∷ xs) in
          (subst P last_is rises, (there, below))
    ] refl e

pub below-more : (n m : ℕ) (xs : List ℕ) → n ≤ m → AllBelow n xs → AllBelow m xs
below-more n m [] h all = tt
below-more n m (x ∷ xs) h all = ((let first = all.0 in omega arith), below-more n m xs h all.1)

pub least-rises : {L : Type 0} (w : Labelling L) (close : L → Option ℤ) (count : ℕ) (last : L → ℕ) (test : L → Bool) →
    IsStepwise w count last → (list : List ℕ) (least : ℤ) →
    IsLeastClosed (limited w test) close list least → Rises list × AllBelow count list
least-rises w close count last test s list least is =
    label-rises w count last s list is.label (from-limited w test list is.label is.label_is)
