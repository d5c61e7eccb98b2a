-- From the tests to the first gap.
use Rattle.std.proofs.Common.{◌≡◌, ℕ, ℤ, neg_ℤ, ◌+◌, ◌<◌, ◌≤◌, ◌⊎◌, inl, inr, ◌<ℤ◌, Bool, true, false, not, ◌||◌, List, [], ◌∷◌, zero, suc, refl, sym, ap, ◌∙◌, arith, subst}
use Rattle.std.proofs.lemmas.Int.{ints}
use Rattle.std.specs.Prelude.{Option, Some, None, slice_get, int_lt, IfSome, IfNone}
use Rattle.std.specs.List.{list_any}
use Rattle.std.proofs.lemmas.Option.{same_Some}
use Rattle.std.proofs.lemmas.Bool.{not-false, not-true}
use Rattle.cover_core.specs.declared.marks.Gap.{Gap}
use Rattle.cover_core.specs.declared.marks.Gap.TheVariants.{First, Next, Close}
use Rattle.cover_core.specs.Plans.{number_at}
use Rattle.mark_cover.specs.Marking.{Marking, IsPlaced}
use Rattle.mark_cover.specs.Covers.{IsMet, ClosesBelow, IsMarkCover, IsGap, IsNoLater, IsFirstGap}
use Rattle.mark_cover.specs.Searches.{AreMetBy, AreUnmetBetween, is_met, is_unmet, is_below, is_low, IsFirstStart, IsFirstStep, IsFirstClosing}

get-same : {L : Type 0} (o : Option L) (a b : L) → o ≡ Some a → o ≡ Some b → a ≡ b
get-same o a b h k = same_Some a b (sym h ∙ k)

or-true : (a b : Bool) → b ≡ true → (a || b) ≡ true
or-true true b h = refl
or-true false b h = h

pub any-get : {L : Type 0} (p : L → Bool) (xs : List L) → list_any p xs ≡ true →
    (k : ℕ) × (a : L) × (slice_get xs k ≡ Some a) × (p a ≡ true)
any-get p [] h = absurd (cc)
any-get {L = L} p (x ∷ xs) h =
    elim (p x) as (λ t. p x ≡ t → (t || list_any p xs) ≡ true → (k : ℕ) × (a : L) × (slice_get (x ∷ xs) k ≡ Some a) × (p a ≡ true)) [
      | true ↦ λ is e. (0, x, refl, is)
      | false ↦ λ is e. let (k, a, at, passes) = any-get p xs e in (suc k, a, at, passes)
    ] refl h

pub get-any : {L : Type 0} (p : L → Bool) (xs : List L) (k : ℕ) (a : L) → slice_get xs k ≡ Some a → p a ≡ true → list_any p xs ≡ true
get-any p [] k a h is = absurd (cc)
get-any {L = L} p (x ∷ xs) zero a h is =
    let same = same_Some x a h in
    let P : L → Type 0 = λ y. p y ≡ true in
    let head : p x ≡ true = subst P (sym same) is in rw head refl
get-any p (x ∷ xs) (suc k) a h is = let rest = get-any p xs k a h is in or-true (p x) (list_any p xs) rest

-- The searches run tests; the contract speaks of marks that stand there and of open lists. This section is the way between the two:
-- a test over all marks passes exactly where some mark is at least as good, an open list fails it exactly where no mark is, and a
-- mark is low exactly where it closes below minus its class price. From here on the first gap is found by what the tests answered.
pub met-from : {L : Type 0} (m : Marking L) (marks : List L) (b : L) → is_met m marks b ≡ true → IsMet m marks b
met-from m marks b h = let (k, a, at, good) = any-get (λ x. m.good x b) marks h in (a, (k, at), good)

met-onto : {L : Type 0} (m : Marking L) (marks : List L) (b : L) → IsMet m marks b → is_met m marks b ≡ true
met-onto m marks b h = get-any (λ x. m.good x b) marks h.1.0 h.0 h.1.1 h.2

unmet-some : {L : Type 0} (m : Marking L) (marks : List L) (o : Option L) → is_unmet m marks o ≡ true →
    (b : L) × (o ≡ Some b) × (IsMet m marks b → ⊥)
unmet-some m marks None h = absurd (cc)
unmet-some m marks (Some b) h = let missing = not-true (is_met m marks b) h in (b, refl, (λ met. let is = met-onto m marks b met in cc))

unmet-none : {L : Type 0} (m : Marking L) (marks : List L) (o : Option L) (b : L) → is_unmet m marks o ≡ false →
    o ≡ Some b → IsMet m marks b
unmet-none m marks None b h e = absurd (cc)
unmet-none {L = L} m marks (Some a) b h e =
    let same = same_Some a b e in
    let P : L → Type 0 = λ x. IsMet m marks x in
    subst P same (met-from m marks a (not-false (is_met m marks a) h))

-- an open list that is not met fails the test
unmet-test : {L : Type 0} (m : Marking L) (marks : List L) (o : Option L) (b : L) → o ≡ Some b → (IsMet m marks b → ⊥) →
    is_unmet m marks o ≡ false → ⊥
unmet-test m marks o b e unmet h = unmet (unmet-none m marks o b h e)

less-from : (u v : ℤ) → int_lt u v ≡ true → u <ℤ v
less-from u v h = grind (arith, ints)

less-not : (u v : ℤ) → int_lt u v ≡ false → (u <ℤ v) → ⊥
less-not u v h k = grind (arith, ints)

below-some : (price : ℤ) (o : Option ℤ) → is_below price o ≡ true → (v : ℤ) × (o ≡ Some v) × (v <ℤ neg_ℤ price)
below-some price None h = absurd (cc)
below-some price (Some v) h = (v, refl, less-from v (neg_ℤ price) h)

below-none : (price : ℤ) (o : Option ℤ) (v : ℤ) → is_below price o ≡ false → o ≡ Some v → (v <ℤ neg_ℤ price) → ⊥
below-none price None v h e k = absurd (cc)
below-none price (Some u) v h e k =
    let same = same_Some u v e in
    let P : ℤ → Type 0 = λ x. x <ℤ neg_ℤ price in
    less-not u (neg_ℤ price) h (subst P (sym same) k)

pub low-from : {L : Type 0} (m : Marking L) (class_prices : List ℤ) (a : L) → is_low m class_prices a ≡ true → ClosesBelow m class_prices a
low-from m class_prices a h = below-some (number_at class_prices (m.class_of a)) (m.close a) h

pub low-not : {L : Type 0} (m : Marking L) (class_prices : List ℤ) (a : L) → is_low m class_prices a ≡ false →
    ClosesBelow m class_prices a → ⊥
low-not m class_prices a h below = below-none (number_at class_prices (m.class_of a)) (m.close a) below.0 h below.1 below.2

-- Each kind of gap contradicts one part of a cover: an open list of one item that is not met the starts, an open extension the
-- steps, and a mark that closes too low the closings. So where marks are a cover no gap is found; it is the half `onto` of the
-- contract of `first_gap`.
pub gap-no-cover : {L : Type 0} (m : Marking L) (marks : List L) (class_prices : List ℤ) (gap : Gap) → IsGap m marks class_prices gap →
    IsMarkCover m marks class_prices → ⊥
gap-no-cover m marks class_prices (First class item) is cover = is.3 (cover.starts class item is.1 is.0 is.2)
gap-no-cover m marks class_prices (Next place item) is cover = is.4 (cover.steps is.0 is.2 item (place, is.1) is.3)
gap-no-cover m marks class_prices (Close place) is cover = cover.closes is.0 (place, is.1) is.2

three-ways : (a b : ℕ) → (a < b) ⊎ ((a ≡ b) ⊎ (b < a))
three-ways a b = grind arith

two-ways : (a b : ℕ) → (a ≤ b) ⊎ (b < a)
two-ways a b = grind arith

-- The first gap of the first kind: the search goes over the classes and, in each, over the items, so at its answer all earlier
-- classes are met throughout and the earlier items of this class are met. Any other gap of the kind that came before would be an
-- open list that failed the test, though it passed; gaps of the other kinds come later by their kind. An open list has an item of
-- the problem (`IsPlaced`), so none lies past the loop's end.
pub start-first : {L : Type 0} (m : Marking L) (marks : List L) (class_prices : List ℤ) (gap : Gap) → IsPlaced m →
    IsFirstStart m marks (Some gap) → IsFirstGap m marks class_prices gap
start-first {L = L} m marks class_prices (First class item) placed found =
    let (below, unmet, items, classes) = found in
    let (b, is, missing) = unmet-some m marks (m.start class item) unmet in
    record {
      is_gap = (below, b, is, missing);
      first = λ other.
          elim other as (λ o. IsGap m marks class_prices o → IsNoLater (First class item) o) [
            | First k j ↦ λ is.
                let there = (placed.starts k j is.1 is.2).0 in
                elim (three-ways class k) [
                  | inl less ↦ inl less
                  | inr rest ↦ elim rest [
                    | inl same ↦ elim (two-ways item j) [
                      | inl order ↦ inr (same, order)
                      | inr early ↦
                          let P : ℕ → Type 0 = λ n. m.start n j ≡ Some is.1 in
                          absurd (unmet-test m marks (m.start class j) is.1 (subst P (sym same) is.2) is.3 (items j early))
                    ]
                    | inr early ↦ absurd (unmet-test m marks (m.start k j) is.1 is.2 is.3 (classes k j early there))
                  ]
                ]
            | Next k j ↦ λ is. tt
            | Close k ↦ λ is. tt
          ];
    }
start-first m marks class_prices (Next place item) placed found = absurd found
start-first m marks class_prices (Close place) placed found = absurd found

no-start : {L : Type 0} (m : Marking L) (marks : List L) (class_prices : List ℤ) → IsPlaced m → IsFirstStart m marks None →
    (class item : ℕ) → IsGap m marks class_prices (First class item) → ⊥
no-start m marks class_prices placed none class item is =
    let there = (placed.starts class item is.1 is.2).0 in
    unmet-test m marks (m.start class item) is.1 is.2 is.3 (none class item is.0 there)

no-step : {L : Type 0} (m : Marking L) (marks : List L) (class_prices : List ℤ) → IsPlaced m → IsFirstStep m marks None → (place item : ℕ) →
    IsGap m marks class_prices (Next place item) → ⊥
no-step m marks class_prices placed none place item is =
    let there = (placed.steps is.0 is.2 item is.3).1 in
    unmet-test m marks (m.extend is.0 item) is.2 is.3 is.4 (none place is.0 is.1 item there)

-- The first gap of the second kind: no start is unmet, so no gap of the first kind is there to come before, and among the extensions
-- the earliest mark with one that is not met is found, and of it the earliest item, by the same argument as for starts. The mark at
-- a place is one mark, so what was tested of it is what the other gap speaks of.
pub step-first : {L : Type 0} (m : Marking L) (marks : List L) (class_prices : List ℤ) (gap : Gap) → IsPlaced m →
    IsFirstStart m marks None → IsFirstStep m marks (Some gap) →
    IsFirstGap m marks class_prices gap
step-first m marks class_prices (First class item) placed none found = absurd found
step-first m marks class_prices (Close place) placed none found = absurd found
step-first {L = L} m marks class_prices (Next place item) placed none found =
    let (a, at, unmet, items) = found.0 in
    let before = found.1 in
    let (b, is, missing) = unmet-some m marks (m.extend a item) unmet in
    record {
      is_gap = (a, at, b, is, missing);
      first = λ other.
          elim other as (λ o. IsGap m marks class_prices o → IsNoLater (Next place item) o) [
            | First k j ↦ λ g. no-start m marks class_prices placed none k j g
            | Next k j ↦ λ g.
                let there = (placed.steps g.0 g.2 j g.3).1 in
                elim (three-ways place k) [
                  | inl less ↦ inl less
                  | inr rest ↦ elim rest [
                    | inl same ↦ elim (two-ways item j) [
                      | inl order ↦ inr (same, order)
                      | inr early ↦
                          let P : ℕ → Type 0 = λ n. slice_get marks n ≡ Some g.0 in
                          let equal = get-same (slice_get marks place) g.0 a (subst P (sym same) g.1) at in
                          let Q : L → Type 0 = λ x. m.extend x j ≡ Some g.2 in
                          absurd (unmet-test m marks (m.extend a j) g.2 (subst Q equal g.3) g.4 (items j early))
                    ]
                    | inr early ↦ absurd (unmet-test m marks (m.extend g.0 j) g.2 g.3 g.4 (before k g.0 early g.1 j there))
                  ]
                ]
            | Close k ↦ λ g. tt
          ];
    }

-- The first gap of the third kind: with all starts and steps met only marks that close too low can be gaps, and the search finds the
-- first of them by its place.
closing-first : {L : Type 0} (m : Marking L) (marks : List L) (class_prices : List ℤ) (gap : Gap) → IsPlaced m → IsFirstStart m marks None →
    IsFirstStep m marks None →
    IsFirstClosing m marks class_prices (Some gap) → IsFirstGap m marks class_prices gap
closing-first m marks class_prices (First class item) placed none steps found = absurd found
closing-first m marks class_prices (Next place item) placed none steps found = absurd found
closing-first {L = L} m marks class_prices (Close place) placed none steps found =
    let (a, at, low) = found.0 in
    let before = found.1 in
    record {
      is_gap = (a, at, low-from m class_prices a low);
      first = λ other.
          elim other as (λ o. IsGap m marks class_prices o → IsNoLater (Close place) o) [
            | First k j ↦ λ g. no-start m marks class_prices placed none k j g
            | Next k j ↦ λ g. no-step m marks class_prices placed steps k j g
            | Close k ↦ λ g. elim (two-ways place k) [
              | inl order ↦ order
              | inr early ↦ absurd (low-not m class_prices g.0 (before k g.0 early g.1) g.2)
            ]
          ];
    }

-- Where all three searches find nothing, the marks are a cover: each part of a cover says of all classes, items and marks what one
-- search has tested of those that are there, and by `IsPlaced` there are no open lists with others. Together with the gaps above
-- this makes `first_gap` answer nothing exactly where the marks are a cover.
closing-cover : {L : Type 0} (m : Marking L) (marks : List L) (class_prices : List ℤ) → IsPlaced m → IsFirstStart m marks None →
    IsFirstStep m marks None →
    IsFirstClosing m marks class_prices None → IsMarkCover m marks class_prices
closing-cover m marks class_prices placed none steps low = record {
  starts = λ class item b there e. unmet-none m marks (m.start class item) b (none class item there (placed.starts class item b e).0) e;
  steps = λ a b item stands e. unmet-none m marks (m.extend a item) b (steps stands.0 a stands.1 item (placed.steps a b item e).1) e;
  closes = λ a stands below. low-not m class_prices a (low stands.0 a stands.1) below;
}

module _ {L : Type 0} (m : Marking L) (marks : List L) (class_prices : List ℤ) (r : Option Gap) (placed : IsPlaced m)
    (none : IsFirstStart m marks None) (steps : IsFirstStep m marks None) (found : IsFirstClosing m marks class_prices r) where
  pub closing-some : IfSome r (λ gap. IsFirstGap m marks class_prices gap)
  closing-some = elim r as (λ o. IsFirstClosing m marks class_prices o → IfSome o (λ gap. IsFirstGap m marks class_prices gap)) [
    | None ↦ λ f. tt
    | Some gap ↦ λ f. closing-first m marks class_prices gap placed none steps f
  ] found

  pub closing-none : IfNone r (IsMarkCover m marks class_prices)
  closing-none = elim r as (λ o. IsFirstClosing m marks class_prices o → IfNone o (IsMarkCover m marks class_prices)) [
    | None ↦ λ f. closing-cover m marks class_prices placed none steps f
    | Some gap ↦ λ f. tt
  ] found

  pub closing-onto : IsMarkCover m marks class_prices → r ≡ None
  closing-onto cover = elim r as (λ o. IsFirstClosing m marks class_prices o → o ≡ None) [
    | None ↦ λ f. refl
    | Some gap ↦ λ f. absurd
        (gap-no-cover m marks class_prices gap (closing-first m marks class_prices gap placed none steps f).is_gap cover)
  ] found

last-or : (k n : ℕ) → k < n + 1 → (k < n) ⊎ (k ≡ n)
last-or k n h = grind arith

-- what holds of the elements before a place and of that at the place holds of those before the next one
pub more : {L : Type 0} (P : L → Type 0) (marks : List L) (place : ℕ) (a : L) → slice_get marks place ≡ Some a → P a →
    ((k : ℕ) (b : L) → k < place → slice_get marks k ≡ Some b → P b) → (k : ℕ) (b : L) → k < place + 1 → slice_get marks k ≡ Some b → P b
more {L = L} P marks place a at here before k b below has =
    elim (last-or k place below) [
      | inl less ↦ before k b less has
      | inr same ↦
          let Q : ℕ → Type 0 = λ n. slice_get marks n ≡ Some b in
          subst P (get-same (slice_get marks place) a b at (subst Q same has)) here
    ]

-- A mark has no extension by its own last item or an earlier one, as a later item is put behind a list. So the search may begin
-- behind a mark's last item, and in the search by items a mark need not be looked at before its own item has passed.
pub past-last : {L : Type 0} (m : Marking L) (marks : List L) (a : L) (k : ℕ) → IsPlaced m → k ≤ m.last a →
    is_unmet m marks (m.extend a k) ≡ false
past-last m marks a k placed order =
    elim (m.extend a k) as (λ o. m.extend a k ≡ o → is_unmet m marks o ≡ false) [
      | None ↦ λ is. refl
      | Some b ↦ λ is. let later = (placed.steps a b k is).0 in absurd (omega arith)
    ] refl

-- one place more, where the mark is not as good
pub between-more : {L : Type 0} (m : Marking L) (marks : List L) (low place : ℕ) (b a : L) →
    slice_get marks place ≡ Some a → m.good a b ≡ false →
    AreUnmetBetween m marks low place b → AreUnmetBetween m marks low (place + 1) b
between-more {L = L} m marks low place b a at here before k x from below has =
    elim (last-or k place below) [
      | inl less ↦ before k x from less has
      | inr same ↦
          let Q : ℕ → Type 0 = λ n. slice_get marks n ≡ Some x in
          let P : L → Type 0 = λ y. m.good y b ≡ false in
          subst P (get-same (slice_get marks place) a x at (subst Q same has)) here
    ]

-- An open list need be compared with the marks of its class and last item alone: a mark that is at least as good has the same class
-- and last item, so among all marks there is one exactly where there is one in this cell. This makes the check of a grouped list of
-- marks fast, and is where the search by cells meets the test over all marks.
pub cell-passes : {L : Type 0} (m : Marking L) (cell marks : List L) (class item : ℕ) (o : Option L) →
    ((b : L) → o ≡ Some b → (m.class_of b ≡ class) × (m.last b ≡ item)) →
    ((b : L) → m.class_of b ≡ class → m.last b ≡ item → is_met m cell b ≡ is_met m marks b) → is_unmet m cell o ≡ false →
    is_unmet m marks o ≡ false
cell-passes m cell marks class item None ends same h = refl
cell-passes m cell marks class item (Some b) ends same h = let (c, l) = ends b refl in ap not (sym (same b c l)) ∙ h

-- one place more, whose mark's extension by an item is met
pub places-more : {L : Type 0} (m : Marking L) (marks : List L) (item low place : ℕ) (a : L) → slice_get marks place ≡ Some a →
    is_unmet m marks (m.extend a item) ≡ false →
    ((k : ℕ) (x : L) → low ≤ k → k < place → slice_get marks k ≡ Some x → is_unmet m marks (m.extend x item) ≡ false) →
    (k : ℕ) (x : L) → low ≤ k → k < place + 1 → slice_get marks k ≡ Some x → is_unmet m marks (m.extend x item) ≡ false
places-more {L = L} m marks item low place a at here before k x from below has =
    elim (last-or k place below) [
      | inl less ↦ before k x from less has
      | inr same ↦
          let Q : ℕ → Type 0 = λ n. slice_get marks n ≡ Some x in
          let P : L → Type 0 = λ y. is_unmet m marks (m.extend y item) ≡ false in
          subst P (get-same (slice_get marks place) a x at (subst Q same has)) here
    ]

-- The steps of the fast search, item by item: the extensions by an item of all marks of a class are met where those of the marks
-- between two places are. The marks with an earlier last item stand there, by the order of the list, and the others have no
-- extension by the item (`past-last`). The lemmas after it add one item and one class more, until all extensions of all marks are
-- met. Where one is not, the search starts anew mark by mark, since only this order tells the first gap.
pub met-by : {L : Type 0} (m : Marking L) (marks : List L) (class item low end : ℕ) → IsPlaced m →
    ((k : ℕ) (a : L) → slice_get marks k ≡ Some a → m.class_of a ≡ class → m.last a < item → (low ≤ k) × (k < end)) →
    ((k : ℕ) (a : L) → low ≤ k → k < end → slice_get marks k ≡ Some a → is_unmet m marks (m.extend a item) ≡ false) →
    AreMetBy m marks class item
met-by m marks class item low end placed sources met = λ k a at same.
    elim (two-ways item (m.last a)) as (λ _. is_unmet m marks (m.extend a item) ≡ false) [
      | inl order ↦ past-last m marks a item placed order
      | inr less ↦ let (from, below) = sources k a at same less in met k a from below at
    ]

-- one item more, whose extensions are met
pub items-more : {L : Type 0} (m : Marking L) (marks : List L) (class item : ℕ) → AreMetBy m marks class item →
    ((j : ℕ) → j < item → AreMetBy m marks class j) →
    (j : ℕ) → j < item + 1 → AreMetBy m marks class j
items-more m marks class item here before j below =
    elim (last-or j item below) as (λ _. AreMetBy m marks class j) [
      | inl less ↦ before j less
      | inr same ↦ let P : ℕ → Type 0 = λ n. AreMetBy m marks class n in subst P (sym same) here
    ]

-- one class more
pub classes-more : {L : Type 0} (m : Marking L) (marks : List L) (class : ℕ) → ((j : ℕ) → j < m.items → AreMetBy m marks class j) →
    ((k j : ℕ) → k < class → j < m.items → AreMetBy m marks k j) → (k j : ℕ) → k < class + 1 → j < m.items → AreMetBy m marks k j
classes-more m marks class here before k j below there =
    elim (last-or k class below) as (λ _. AreMetBy m marks k j) [
      | inl less ↦ before k j less there
      | inr same ↦ let P : ℕ → Type 0 = λ n. AreMetBy m marks n j in subst P (sym same) (here j there)
    ]
