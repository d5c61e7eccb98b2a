-- Marks by class and last item: orders, and what stands in a group.
use Rattle.std.proofs.Common.{◌≡◌, ℕ, ◌+◌, ◌-◌, ◌<◌, ◌≤◌, ◌⊎◌, inl, inr, Bool, true, false, ◌||◌, List, [], ◌∷◌, ◌++◌, length, take, drop, zero, suc, refl, sym, ap, ◌∙◌, arith, subst}
use Rattle.std.proofs.lemmas.Bool.Decides.{nat_tests}
use Rattle.std.proofs.lemmas.Option.{slice_get_within, slice_get_cases}
use Rattle.std.proofs.lemmas.List.Folds.{list_any-append}
use Rattle.std.specs.Prelude.{Option, Some, slice_get, unwrap_or}
use Rattle.std.specs.List.{list_any}
use Rattle.mark_cover.specs.Marking.{Marking, IsOrdered}
use Rattle.mark_cover.specs.Orders.{is_before, stands_before, AreGrouped, AreEarly, AreLate, AreStepGrouped}

-- before is a test of numbers
before-from : (c i c' i' : ℕ) → is_before c i c' i' ≡ true → (c < c') ⊎ ((c ≡ c') × (i < i'))
before-from c i c' i' h = grind (arith, nat_tests)

before-onto : (c i c' i' : ℕ) → (c < c') ⊎ ((c ≡ c') × (i < i')) → is_before c i c' i' ≡ true
before-onto c i c' i' h = grind (arith, nat_tests)

late-from : (c i c' i' : ℕ) → is_before c i c' i' ≡ false → (c' < c) ⊎ ((c' ≡ c) × (i' ≤ i))
late-from c i c' i' h = grind (arith, nat_tests)

late-onto : (c i c' i' : ℕ) → (c' < c) ⊎ ((c' ≡ c) × (i' ≤ i)) → is_before c i c' i' ≡ false
late-onto c i c' i' h = grind (arith, nat_tests)

-- Marks are ordered by class and last item; marks of one class and item are equal in this order and stand in any order among
-- themselves. "Not before" is transitive, and what is not after an early mark is early itself. These two are all that the search for
-- a place and the test of neighbours need of the order.
late-through : (c1 i1 c2 i2 c3 i3 : ℕ) → is_before c2 i2 c1 i1 ≡ false → is_before c3 i3 c2 i2 ≡ false → is_before c3 i3 c1 i1 ≡ false
late-through c1 i1 c2 i2 c3 i3 h k =
    late-onto c3 i3 c1 i1 (elim (late-from c2 i2 c1 i1 h) [
      | inl less ↦ elim (late-from c3 i3 c2 i2 k) [ inl less2 ↦ inl (omega arith) | inr same ↦ let e = same.0 in inl (omega arith) ]
      | inr same ↦ let e = same.0 in let o = same.1 in
          elim (late-from c3 i3 c2 i2 k) [
            | inl less2 ↦ inl (omega arith)
            | inr same2 ↦ let e2 = same2.0 in let o2 =
                same2.1 in inr (omega arith, omega arith)
          ]
    ])

early-through : (c1 i1 c2 i2 c i : ℕ) → is_before c2 i2 c1 i1 ≡ false → is_before c2 i2 c i ≡ true → is_before c1 i1 c i ≡ true
early-through c1 i1 c2 i2 c i h k =
    before-onto c1 i1 c i (elim (late-from c2 i2 c1 i1 h) [
      | inl less ↦ elim (before-from c2 i2 c i k) [ inl less2 ↦ inl (omega arith) | inr same ↦ let e = same.0 in inl (omega arith) ]
      | inr same ↦ let e = same.0 in let o = same.1 in
          elim (before-from c2 i2 c i k) [
            | inl less2 ↦ inl (omega arith)
            | inr same2 ↦ let e2 = same2.0 in let o2 =
                same2.1 in inr (omega arith, omega arith)
          ]
    ])

same-mark : {L : Type 0} (o : Option L) (a b : L) → o ≡ Some a → o ≡ Some b → a ≡ b
same-mark {L = L} o a b h k = let f : Option L → L = λ o. unwrap_or o a in ap f (sym h ∙ k)

below-next : (k n : ℕ) → k < n + 1 → (k < n) ⊎ (k ≡ n)
below-next k n h = grind arith

not-past : (k n : ℕ) → n ≤ k → (n < k) ⊎ (k ≡ n)
not-past k n h = grind arith

-- One step of the search for a place by halving, in a list that is grouped by class and last item: where the mark in the middle
-- stands before the class and item, so do all marks up to it; where it does not, none from it on does (`late-step`). So the bounds
-- of the search keep their meaning, and at the end the marks below the place are exactly those before the class and item.
pub early-step : {L : Type 0} (m : Marking L) (marks : List L) (class item middle : ℕ) (a : L) → AreGrouped m marks →
    slice_get marks middle ≡ Some a →
    stands_before m a class item ≡ true → AreEarly m marks class item (middle + 1)
early-step {L = L} m marks class item middle a grouped at is = λ k b below has.
    elim (below-next k middle below) [
      | inl less ↦ early-through (m.class_of b) (m.last b) (m.class_of a) (m.last a) class item (grouped k middle b a less has at) is
      | inr same ↦
          let P : ℕ → Type 0 = λ n. slice_get marks n ≡ Some b in
          let e = same-mark (slice_get marks middle) a b at (subst P same has) in
          let Q : L → Type 0 = λ x. stands_before m x class item ≡ true in
          subst Q e is
    ]

pub late-step : {L : Type 0} (m : Marking L) (marks : List L) (class item middle : ℕ) (a : L) → AreGrouped m marks →
    slice_get marks middle ≡ Some a →
    stands_before m a class item ≡ false → AreLate m marks class item middle
late-step {L = L} m marks class item middle a grouped at is = λ k b above has.
    elim (not-past k middle above) [
      | inl less ↦ late-through class item (m.class_of a) (m.last a) (m.class_of b) (m.last b) is (grouped middle k a b less at has)
      | inr same ↦
          let P : ℕ → Type 0 = λ n. slice_get marks n ≡ Some b in
          let e = same-mark (slice_get marks middle) a b at (subst P same has) in
          let Q : L → Type 0 = λ x. stands_before m x class item ≡ false in
          subst Q e is
    ]

-- A list in which no mark stands before its left neighbour is grouped throughout. The proof goes from one mark to any later one by
-- induction on the gap between them, over the neighbour in between; there is such a mark, since the later place is in the list. So
-- one pass over neighbours tests whether the fast search may be used.
far-grouped : {L : Type 0} (m : Marking L) (marks : List L) → AreStepGrouped m marks (length marks) → (gap i : ℕ) (a b : L) →
    slice_get marks i ≡ Some a → slice_get marks (i + 1 + gap) ≡ Some b → stands_before m b (m.class_of a) (m.last a) ≡ false
far-grouped m marks steps zero i a b at there =
    let within = slice_get_within marks (i + 1 + 0) b there in
    let same : i + 1 + 0 ≡ i + 1 = omega arith in
    steps i a b (omega arith) at (rw same at there)
far-grouped m marks steps (suc gap) i a b at there =
    let within = slice_get_within marks (i + 1 + suc gap) b there in
    elim (slice_get_cases marks (i + 1)).1 [
      | inl found ↦
          let middle = found.0 in
          let shifted : i + 1 + suc gap ≡ (i + 1) + 1 + gap = omega arith in
          late-through (m.class_of a) (m.last a) (m.class_of middle) (m.last middle) (m.class_of b) (m.last b)
          (steps i a middle (omega arith) at found.2) (far-grouped m marks steps gap (i + 1) middle b found.2 (rw shifted at there))
      | inr past ↦ let beyond = past.0 in absurd (omega arith)
    ]

pub step-grouped : {L : Type 0} (m : Marking L) (marks : List L) → AreStepGrouped m marks (length marks) → AreGrouped m marks
step-grouped m marks steps = λ i j a b less at there.
    let P : ℕ → Type 0 = λ n. slice_get marks n ≡ Some b in
    let same : j ≡ i + 1 + (j - (i + 1)) = omega arith in
    far-grouped m marks steps (j - (i + 1)) i a b at (subst P same there)

pub step-more : {L : Type 0} (m : Marking L) (marks : List L) (place : ℕ) (a b : L) → 1 ≤ place → slice_get marks (place - 1) ≡ Some a →
    slice_get marks place ≡ Some b →
    stands_before m b (m.class_of a) (m.last a) ≡ false → AreStepGrouped m marks place → AreStepGrouped m marks (place + 1)
step-more {L = L} m marks place a b one at there is steps = λ k x y below has next.
    elim (below-next (k + 1) place below) [
      | inl less ↦ steps k x y less has next
      | inr same ↦
          let before : k ≡ place - 1 = omega arith in
          let P : ℕ → Type 0 = λ n. slice_get marks n ≡ Some x in
          let Q : ℕ → Type 0 = λ n. slice_get marks n ≡ Some y in
          let left = same-mark (slice_get marks (place - 1)) a x at (subst P before has) in
          let right = same-mark (slice_get marks place) b y there (subst Q same next) in
          let R : L → Type 0 = λ u. stands_before m y (m.class_of u) (m.last u) ≡ false in
          let S : L → Type 0 = λ v. stands_before m v (m.class_of a) (m.last a) ≡ false in
          subst R left (subst S right is)
    ]

either : (k n : ℕ) → (k < n) ⊎ (n ≤ k)
either k n = grind arith

-- a list of which no element passes
none-pass : {L : Type 0} (p : L → Bool) (xs : List L) → ((k : ℕ) (a : L) → slice_get xs k ≡ Some a → p a ≡ false) → list_any p xs ≡ false
none-pass p [] none = refl
none-pass p (x ∷ xs) none = let head = none 0 x refl in let rest = none-pass p xs (λ k a h. none (suc k) a h) in rw head rest

get-take : {L : Type 0} (xs : List L) (n k : ℕ) (a : L) → slice_get (take n xs) k ≡ Some a → (k < n) × (slice_get xs k ≡ Some a)
get-take [] zero k a h = absurd (cc)
get-take [] (suc n) k a h = absurd (cc)
get-take (x ∷ xs) zero k a h = absurd (cc)
get-take (x ∷ xs) (suc n) zero a h = (omega arith, h)
get-take (x ∷ xs) (suc n) (suc k) a h = let (below, at) = get-take xs n k a h in (omega arith, at)

get-drop : {L : Type 0} (xs : List L) (n k : ℕ) → slice_get (drop n xs) k ≡ slice_get xs (n + k)
get-drop [] zero k = refl
get-drop [] (suc n) k = refl
get-drop (x ∷ xs) zero k = let same : 0 + k ≡ k = omega arith in rw same refl
get-drop (x ∷ xs) (suc n) k = let same : suc n + k ≡ suc (n + k) = omega arith in rw same (get-drop xs n k)

split : {L : Type 0} (xs : List L) (n : ℕ) → xs ≡ take n xs ++ drop n xs
split [] zero = refl
split [] (suc n) = refl
split (x ∷ xs) zero = refl
split (x ∷ xs) (suc n) = ap (λ l. x ∷ l) (split xs n)

three-parts : (all front rest middle tail : Bool) → all ≡ (front || rest) → front ≡ false → rest ≡ (middle || tail) →
    tail ≡ false → middle ≡ all
three-parts all front rest true tail h1 h2 h3 h4 = grind arith
three-parts all front rest false tail h1 h2 h3 h4 = grind arith

-- Whether some element of a list passes a test is told by a middle part alone, where none before and none behind it passes. The list
-- is cut into three parts, "some" of the whole is "some" of one of them, and two are known to have none.
pub middle-any : {L : Type 0} (p : L → Bool) (xs : List L) (low high : ℕ) → low ≤ high →
    ((k : ℕ) (a : L) → k < low → slice_get xs k ≡ Some a → p a ≡ false) →
    ((k : ℕ) (a : L) → high ≤ k → slice_get xs k ≡ Some a → p a ≡ false) →
    list_any p (take (high - low) (drop low xs)) ≡ list_any p xs
middle-any {L = L} p xs low high order before behind =
    let front : list_any p (take low xs) ≡ false =
    none-pass p (take low xs) (λ k a h. let (below, at) = get-take xs low k a h in before k a below at) in
    let tail : list_any p (drop (high - low) (drop low xs)) ≡ false =
    none-pass p (drop (high - low) (drop low xs)) (λ k a h.
    let e1 = get-drop (drop low xs) (high - low) k in
    let e2 = get-drop xs low (high - low + k) in
    behind (low + (high - low + k)) a (omega arith) (sym e2 ∙ (sym e1 ∙ h))) in
    let whole : list_any p xs ≡ (list_any p (take low xs) || list_any p (drop low xs)) =
    ap (list_any p) (split xs low) ∙ list_any-append p (take low xs) (drop low xs) in
    let rest : list_any p (drop low xs) ≡ (list_any p (take (high - low) (drop low xs)) || list_any p (drop (high - low) (drop low xs))) =
    ap (list_any p) (split (drop low xs) (high - low))
    ∙ list_any-append p (take (high - low) (drop low xs)) (drop (high - low) (drop low xs)) in
    three-parts (list_any p xs) (list_any p (take low xs)) (list_any p (drop low xs)) (list_any p (take (high - low) (drop low xs)))
    (list_any p (drop (high - low) (drop low xs))) whole front rest tail

-- A mark that is at least as good as another has its class and last item. So a mark that stands before the other's class and item,
-- or from the next item on, is not at least as good; these are all marks outside the group.
pub early-differs : {L : Type 0} (m : Marking L) → IsOrdered m → (a b : L) (class item : ℕ) → m.class_of b ≡ class → m.last b ≡ item →
    stands_before m a class item ≡ true → m.good a b ≡ false
early-differs m ordered a b class item of_class last is =
    elim (m.good a b) as (λ t. m.good a b ≡ t → t ≡ false) [
      | true ↦ λ good.
          let same = ordered.grouped a b good in
          let e1 = same.0 in
          let e2 = same.1 in
          elim (before-from (m.class_of a) (m.last a) class item is) [
            | inl less ↦ absurd (omega arith)
            | inr equal ↦ let less =
                equal.1 in absurd (omega arith)
          ]
      | false ↦ λ good. refl
    ] refl

pub late-differs : {L : Type 0} (m : Marking L) → IsOrdered m → (a b : L) (class item : ℕ) → m.class_of b ≡ class → m.last b ≡ item →
    stands_before m a class (item + 1) ≡ false → m.good a b ≡ false
late-differs m ordered a b class item of_class last is =
    elim (m.good a b) as (λ t. m.good a b ≡ t → t ≡ false) [
      | true ↦ λ good.
          let same = ordered.grouped a b good in
          let e1 = same.0 in
          let e2 = same.1 in
          elim (late-from (m.class_of a) (m.last a) class (item + 1) is) [
            | inl less ↦ absurd (omega arith)
            | inr equal ↦ let less =
                equal.1 in absurd (omega arith)
          ]
      | false ↦ λ good. refl
    ] refl

-- The test over all marks is the one over the group of an open list's class and last item: the places of the group are found by
-- halving, marks before and behind it are not at least as good (`early-differs`, `late-differs`), and `middle-any` leaves the group.
-- It is why looking at the marks of one class and item alone gives the answers that the contract states of all marks.
pub group-any : {L : Type 0} (m : Marking L) (marks : List L) (class item low high : ℕ) → IsOrdered m → low ≤ high →
    AreEarly m marks class item low → AreLate m marks class (item + 1) high →
    (b : L) → m.class_of b ≡ class → m.last b ≡ item →
    list_any (λ a. m.good a b) (take (high - low) (drop low marks)) ≡ list_any (λ a. m.good a b) marks
group-any m marks class item low high ordered order early late b of_class last =
    middle-any (λ a. m.good a b) marks low high order
    (λ k a below at. early-differs m ordered a b class item of_class last (early k a below at))
    (λ k a above at. late-differs m ordered a b class item of_class last (late k a above at))

-- an empty one
pub no-group : {L : Type 0} (m : Marking L) (marks : List L) (class item low high : ℕ) → IsOrdered m → high ≤ low →
    AreEarly m marks class item low → AreLate m marks class (item + 1) high →
    (b : L) → m.class_of b ≡ class → m.last b ≡ item → list_any (λ a. m.good a b) marks ≡ false
no-group {L = L} m marks class item low high ordered order early late b of_class last =
    none-pass (λ a. m.good a b) marks (λ k a at.
    elim (either k low) [
      | inl below ↦ early-differs m ordered a b class item of_class last (early k a below at)
      | inr above ↦ late-differs m ordered a b class item of_class last (late k a (omega arith) at)
    ])

-- Which marks may have an extension by an item: those of the class with an earlier last item, and they stand from the first mark of
-- the class to the first one that is not before the item. The two places are found by halving; `between-class` says that all marks
-- in between are of the class, so no more is looked at than is needed.
pub sources-between : {L : Type 0} (m : Marking L) (marks : List L) (class item from end : ℕ) → AreEarly m marks class 0 from →
    AreLate m marks class item end →
    (k : ℕ) (a : L) → slice_get marks k ≡ Some a → m.class_of a ≡ class → m.last a < item → (from ≤ k) × (k < end)
sources-between m marks class item from end early late k a at same less = (
  elim (either-way from k) as (λ _. from ≤ k) [
    | inl order ↦ order
    | inr below ↦ elim (before-from (m.class_of a) (m.last a) class 0 (early k a below at)) as (λ _. from ≤ k) [
      | inl other ↦ absurd (omega (arith, other, same))
      | inr none ↦ let no = none.1 in absurd (omega (arith, no))
    ]
  ],
  elim (either-way end k) as (λ _. k < end) [
    | inl order ↦ elim (late-from (m.class_of a) (m.last a) class item (late k a order at)) as (λ _. k < end) [
      | inl other ↦ absurd (omega (arith, other, same))
      | inr none ↦ let no = none.1 in absurd (omega (arith, no, less))
    ]
    | inr below ↦ below
  ],
)
  where
    either-way : (a b : ℕ) → (a ≤ b) ⊎ (b < a)
    either-way a b = grind arith

-- and those between these places are of the class
pub between-class : {L : Type 0} (m : Marking L) (marks : List L) (class item from end : ℕ) → AreLate m marks class 0 from →
    AreEarly m marks class item end →
    (k : ℕ) (a : L) → slice_get marks k ≡ Some a → from ≤ k → k < end → m.class_of a ≡ class
between-class m marks class item from end late early k a at low high =
    elim (late-from (m.class_of a) (m.last a) class 0 (late k a low at)) as (λ _. m.class_of a ≡ class) [
      | inl above ↦ elim (before-from (m.class_of a) (m.last a) class item (early k a high at)) as (λ _. m.class_of a ≡ class) [
        | inl less ↦ absurd (omega (arith, above, less))
        | inr same ↦ same.0
      ]
      | inr same ↦ sym same.0
    ]
