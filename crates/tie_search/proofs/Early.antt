-- What the lists before an end say of all.
use Rattle.std.proofs.Common.{◌≡◌, ◌≢◌, ℕ, ℤ, ◌+ℤ◌, pos, ◌<◌, ◌≤◌, ◌≤ℤ◌, ◌⊎◌, inl, inr, true, false, cond, nat_lt, List, [], ◌∷◌, ◌++◌, refl, sym, ap, ◌∙◌, subst, arith}
use Rattle.std.proofs.lemmas.Int.{ints}
use Rattle.std.proofs.lemmas.Bool.Decides.{nat_tests}
use Rattle.std.specs.Prelude.{Option, Some, None, Result, Ok, Err, IfOk, IfSome}
use Rattle.std.specs.Ordering.{is_gt}
use Rattle.cover_core.specs.Cover.{AllBelow, Rises}
use Rattle.cover_core.specs.FirstLeast.{IsNotAfter}
use Rattle.cover_core.specs.Labels.{Labelling, label_after, label_of}
use Rattle.cover_core.proofs.Order.{backward_cmp-last}
use Rattle.label_search.specs.Answers.{AllCloseAbove, IsLeastClosed}
use Rattle.label_search.specs.Laws.{IsStepwise}
use Rattle.label_search.proofs.Rising.{label-rises}
use Rattle.tie_search.specs.Before.{AreSameBefore, CloseAlike, before}
use Rattle.tie_search.specs.Laws.{before-stepwise}

module _ {L : Type 0} (w : Labelling L) (end : ℕ) where
  step-same : (item : ℕ) (o : Option L) → item < end → cond (nat_lt item end) o None ≡ o
  step-same item o h = let test : nat_lt item end ≡ true = grind (arith, nat_tests) in ap (λ t. cond t o None) test

  -- a list whose items are all before the end has the label that it has among all lists
  after-same : (o : Option L) (xs : List ℕ) → AllBelow end xs → label_after (before w end) o xs ≡ label_after w o xs
  after-same None [] h = refl
  after-same None (x ∷ xs) h = refl
  after-same (Some a) [] h = refl
  after-same (Some a) (x ∷ xs) h =
      ap (λ o. label_after (before w end) o xs) (step-same x (w.extend a x) h.0) ∙ after-same (w.extend a x) xs h.1

  label-same : (xs : List ℕ) → AllBelow end xs → label_of (before w end) xs ≡ label_of w xs
  label-same [] h = refl
  label-same (x ∷ xs) h = ap (λ o. label_after (before w end) o xs) (step-same x (w.start x) h.0) ∙ after-same (w.start x) xs h.1

-- the last item of a list that is at the end or behind it
abbrev IsLate : ℕ → List ℕ → Type 0
IsLate end xs = (ys : List ℕ) × (y : ℕ) × (xs ≡ ys ++ y ∷ []) × (end ≤ y)

-- A rising list either has only items before an end, or its last item is not before it, as the last one is the greatest. So the
-- lists that a search before an end leaves out are exactly those that end late, and one look at the last item tells them apart.
early-or-late : (end : ℕ) (xs : List ℕ) → Rises xs → AllBelow end xs ⊎ IsLate end xs
early-or-late end [] h = inl tt
early-or-late end (x ∷ []) h =
    elim (nat_lt x end) as (λ t. nat_lt x end ≡ t → AllBelow end (x ∷ []) ⊎ IsLate end (x ∷ [])) [
      | true ↦ λ is. let early : x < end = grind (arith, nat_tests) in inl (early, tt)
      | false ↦ λ is. let late : end ≤ x = grind (arith, nat_tests) in inr ([], x, refl, late)
    ] refl
early-or-late end (x ∷ y ∷ rest) h =
    elim (early-or-late end (y ∷ rest) h.1) [
      | inl early ↦ (let first = h.0 in let second = early.0 in let before_end : x < end = omega arith in inl (before_end, early))
      | inr late ↦ (let (ys, z, is, behind) = late in inr (x ∷ ys, z, ap (λ l. x ∷ l) is, behind))
    ]

-- the last item of a list whose items are all before the end
last-early : (end : ℕ) (x : ℕ) (xs : List ℕ) → AllBelow end (x ∷ xs) → (ys : List ℕ) × (y : ℕ) × (x ∷ xs ≡ ys ++ y ∷ []) × (y < end)
last-early end x [] h = ([], x, refl, h.0)
last-early end x (y ∷ rest) h = let (ys, z, is, early) = last-early end y rest h.1 in (x ∷ ys, z, ap (λ l. x ∷ l) is, early)

-- so it comes before a list that ends later
not-after : (end : ℕ) (xs ys : List ℕ) → AllBelow end xs → xs ≢ [] → IsLate end ys → IsNotAfter xs ys
not-after end [] ys h some late = absurd (some refl)
not-after end (x ∷ xs) ys h some late =
    let (fs, a, a-is, early) = last-early end x xs h in
    let (gs, b, b-is, behind) = late in
    let less : a < b = omega arith in
    let P : List ℕ → Type 0 = λ l. IsNotAfter l ys in
    let Q : List ℕ → Type 0 = λ l. IsNotAfter (fs ++ a ∷ []) l in
    subst P (sym a-is) (subst Q (sym b-is) (ap is_gt (backward_cmp-last fs gs a b less)))

-- Where no list closes with less, the first least of the lists before the end that close with that is the first least of all: a list with
-- an item at the end or behind it ends with such an item, since lists rise, and so it comes after each list that ends before.
pub least-before : {L : Type 0} (w v : Labelling L) (close other : L → Option ℤ) (count early_count : ℕ) (last early_last : L → ℕ) →
    IsStepwise w count last → IsStepwise v early_count early_last →
    (end : ℕ) (list : List ℕ) (least below : ℤ) → AreSameBefore w v end → CloseAlike close other →
    AllCloseAbove w close below → IsLeastClosed (before v end) other list least → least ≤ℤ (below +ℤ pos 1) →
    IsLeastClosed w close list least
least-before w v close other count early_count last early_last s t end list least below same alike above is low =
    let (rises, early) = label-rises (before v end) end early_last (before-stepwise v end early_count early_last t)
    list is.label is.label_is in
    let some : list ≢ [] = λ e. let P : List ℕ → Type 0 = λ l. label_of (before v end) l ≡ Some is.label in
    let none = subst P e is.label_is in absurd (cc) in
    record {
      label = is.label;
      label_is = sym (same list early) ∙ (sym (label-same v end list early) ∙ is.label_is);
      closes = sym (alike is.label) ∙ is.closes;
      first = record {
        at_least = λ xs b z e c. let bound = above xs b z e c in omega (arith, ints);
        first = λ xs b e c.
            elim (early-or-late end xs (label-rises w count last s xs b e).0) [
              | inl inside ↦ is.first.first xs b (label-same v end xs inside ∙ (same xs inside ∙ e)) (alike b ∙ c)
              | inr late ↦ not-after end list xs early some late
            ];
      };
    }

-- what two facts of an answer give, where there is one
pub if-found : {T E : Type 0} (r : Result (Option T) E) (P Q R : T → Type 0) → ((x : T) → P x → Q x → R x) →
    IfOk r (λ a. IfSome a P) → IfOk r (λ a. IfSome a Q) → IfOk r (λ a. IfSome a R)
if-found (Ok None) P Q R f h k = h
if-found (Ok (Some x)) P Q R f h k = f x h k
if-found (Err e) P Q R f h k = h
