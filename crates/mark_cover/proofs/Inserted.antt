-- What an insertion keeps.
use Rattle.std.proofs.Common.{◌≡◌, ℕ, ◌<◌, ◌≤◌, ◌⊎◌, length, arith, inl, inr, Bool, true, false, cond, not, List, [], ◌∷◌, ◌++◌, filter, zero, suc, refl, sym, ap, ◌∙◌, subst, Result, Ok, Err, OnOk}
use Rattle.std.specs.Prelude.{Option, Some, None, slice_get}
use Rattle.mark_cover.specs.Marking.{Marking, IsOrdered}
use Rattle.mark_cover.specs.Covers.{StandsIn, IsMet}
use Rattle.std.proofs.lemmas.Option.{slice_get_within, same_Some}
use Rattle.std.proofs.lemmas.Bool.{not-true}
use Rattle.mark_cover.specs.Levels.{AreInserted, listed, nexts}
use Rattle.mark_cover.specs.Searches.{AreUnmetBetween, is_met}
use Rattle.mark_cover.proofs.Firsts.{any-get, get-any}

-- a mark is put last, unless another one is at least as good; those that it is at least as good as are taken out
abbrev stays : {L : Type 0} → Marking L → L → L → Bool
stays m a b = not (m.good a b)

get-left : {L : Type 0} (xs ys : List L) (a : L) (k : ℕ) → slice_get xs k ≡ Some a → StandsIn (xs ++ ys) a
get-left [] ys a k h = absurd (cc)
get-left (x ∷ xs) ys a zero h = (0, h)
get-left (x ∷ xs) ys a (suc k) h = let (j, at) = get-left xs ys a k h in (suc j, at)

pub stands-left : {L : Type 0} (xs ys : List L) (a : L) → StandsIn xs a → StandsIn (xs ++ ys) a
stands-left xs ys a h = get-left xs ys a h.0 h.1

pub stands-right : {L : Type 0} (xs ys : List L) (a : L) → StandsIn ys a → StandsIn (xs ++ ys) a
stands-right [] ys a h = h
stands-right (x ∷ xs) ys a h = let (j, at) = stands-right xs ys a h in (suc j, at)

get-either : {L : Type 0} (xs ys : List L) (a : L) (k : ℕ) → slice_get (xs ++ ys) k ≡ Some a → StandsIn xs a ⊎ StandsIn ys a
get-either [] ys a k h = inr (k, h)
get-either (x ∷ xs) ys a zero h = inl (0, h)
get-either (x ∷ xs) ys a (suc k) h = elim (get-either xs ys a k h) [ inl left ↦ inl (suc left.0, left.1) | inr right ↦ inr right ]

pub stands-either : {L : Type 0} (xs ys : List L) (a : L) → StandsIn (xs ++ ys) a → StandsIn xs a ⊎ StandsIn ys a
stands-either xs ys a h = get-either xs ys a h.0 h.1

get-one : {L : Type 0} (a b : L) (k : ℕ) → slice_get (a ∷ []) k ≡ Some b → a ≡ b
get-one a b zero h = same_Some a b h
get-one a b (suc k) h = absurd (cc)

pub stands-one : {L : Type 0} (a b : L) → StandsIn (a ∷ []) b → a ≡ b
stands-one a b h = get-one a b h.0 h.1

get-none : {L : Type 0} (a : L) (k : ℕ) → slice_get [] k ≡ Some a → ⊥
get-none a k h = cc

pub stands-none : {L : Type 0} (a : L) → StandsIn [] a → ⊥
stands-none a h = get-none a h.0 h.1

-- what a filter keeps
filtered : {L : Type 0} (p : L → Bool) (xs : List L) (a : L) (k : ℕ) → slice_get (filter p xs) k ≡ Some a → StandsIn xs a × (p a ≡ true)
filtered p [] a k h = absurd (get-none a k h)
filtered {L = L} p (x ∷ xs) a k h =
    elim (p x) as (λ t. p x ≡ t → slice_get (cond t (x ∷ filter p xs) (filter p xs)) k ≡ Some a → StandsIn (x ∷ xs) a × (p a ≡ true)) [
      | true ↦ λ is e. elim k as (λ j. slice_get (x ∷ filter p xs) j ≡ Some a → StandsIn (x ∷ xs) a × (p a ≡ true)) [
        | zero ↦ λ f. let same = same_Some x a f in let P : L → Type 0 = λ y. p y ≡ true in ((0, f), subst P same is)
        | suc j ↦ λ f. let (stands, passes) = filtered p xs a j f in ((suc stands.0, stands.1), passes)
      ] e
      | false ↦ λ is e. let (stands, passes) = filtered p xs a k e in ((suc stands.0, stands.1), passes)
    ] refl h

kept : {L : Type 0} (p : L → Bool) (xs : List L) (a : L) (k : ℕ) → slice_get xs k ≡ Some a → p a ≡ true → StandsIn (filter p xs) a
kept p [] a k h is = absurd (get-none a k h)
kept {L = L} p (x ∷ xs) a zero h is =
    let same = same_Some x a h in
    let P : L → Type 0 = λ y. p y ≡ true in
    let head : p x ≡ true = subst P (sym same) is in
    let Q : Bool → Type 0 = λ t. StandsIn (cond t (x ∷ filter p xs) (filter p xs)) a in
    subst Q (sym head) (0, h)
kept {L = L} p (x ∷ xs) a (suc k) h is =
    let (j, at) = kept p xs a k h is in
    elim (p x) as (λ t. StandsIn (cond t (x ∷ filter p xs) (filter p xs)) a) [ true ↦ (suc j, at) | false ↦ (j, at) ]

not-onto : (t : Bool) → t ≡ false → not t ≡ true
not-onto true h = absurd (cc)
not-onto false h = refl

-- no mark is at least as good, where none of them is by its place
pub not-met : {L : Type 0} (m : Marking L) (marks : List L) (b : L) → ((k : ℕ) (a : L) → slice_get marks k ≡ Some a → m.good a b ≡ false) →
    is_met m marks b ≡ false
not-met m marks b none =
    elim (is_met m marks b) as (λ t. is_met m marks b ≡ t → t ≡ false) [
      | true ↦ λ is. let (k, a, at, passes) = any-get (λ x. m.good x b) marks is in let no = none k a at in absurd (cc)
      | false ↦ λ is. refl
    ] refl

-- no mark is at least as good, where none is from a place on and none before it
pub all-unmet : {L : Type 0} (m : Marking L) (marks : List L) (b : L) (near end : ℕ) → AreUnmetBetween m marks 0 end b →
    AreUnmetBetween m marks near (length marks) b →
    (near ≤ length marks → end ≡ near) → (length marks ≤ near → end ≡ length marks) → is_met m marks b ≡ false
all-unmet m marks b near end before from place past =
    not-met m marks b (λ k a at.
    let within = slice_get_within marks k a at in
    elim (either-way near k) as (λ _. m.good a b ≡ false) [
      | inl order ↦ from k a order within at
      | inr below ↦ elim (either-way near (length marks)) as (λ _. m.good a b ≡ false) [
        | inl fits ↦ let same = place fits in before k a (omega arith) (omega (arith, same, below)) at
        | inr over ↦ let same = past (omega (arith, over)) in before k a (omega arith) (omega (arith, same, within)) at
      ]
    ])
  where
    either-way : (a b : ℕ) → (a ≤ b) ⊎ (b < a)
    either-way a b = grind arith

-- Putting a mark in keeps what the making of marks asks: the mark is met, by itself; a mark that was met by one that is taken out is
-- met by the new one, as "at least as good" goes through it; and no two marks are comparable, since none was at least as good as the
-- new one and those that it beats are gone.
pub pushed : {L : Type 0} (m : Marking L) (marks : List L) (a : L) → IsOrdered m → is_met m marks a ≡ false →
    AreInserted m (a ∷ []) marks (filter (stays m a) marks ++ a ∷ [])
pushed {L = L} m marks a ordered best = record {
  only = λ b stands. elim (stands-either (filter (stays m a) marks) (a ∷ []) b stands) [
    | inl left ↦ inl (filtered (stays m a) marks b left.0 left.1).0
    | inr right ↦ inr right
  ];
  met = λ b stands.
      let same = stands-one a b stands in
      let P : L → Type 0 = λ x. IsMet m (filter (stays m a) marks ++ a ∷ []) x in
      subst P same (a, stands-right (filter (stays m a) marks) (a ∷ []) a (0, refl), (ordered.kept 0).same a);
  keeps = λ c met.
      let (x, stands, good) = met in
      elim (m.good a x) as (λ t. m.good a x ≡ t → IsMet m (filter (stays m a) marks ++ a ∷ []) c) [
        | true ↦ λ beats. (a, stands-right (filter (stays m a) marks) (a ∷ []) a (0, refl), (ordered.kept 0).through a x c beats good)
        | false ↦ λ stay. (
          x,
          stands-left (filter (stays m a) marks) (a ∷ []) x
              (kept (stays m a) marks x stands.0 stands.1 (not-onto (m.good a x) stay)),
          good,
        )
      ] refl;
  alone = λ alone x y first second good.
      elim (stands-either (filter (stays m a) marks) (a ∷ []) x first) [
        | inl left ↦
            let (old, stay) = filtered (stays m a) marks x left.0 left.1 in
            elim (stands-either (filter (stays m a) marks) (a ∷ []) y second) [
              | inl left2 ↦ alone x y old (filtered (stays m a) marks y left2.0 left2.1).0 good
              | inr right ↦
                  let same = stands-one a y right in
                  let P : L → Type 0 = λ z. m.good x z ≡ true in
                  let beaten : is_met m marks a ≡ true = get-any (λ z. m.good z a) marks old.0 x old.1 (subst P (sym same) good) in
                  absurd (cc)
            ]
        | inr right ↦
            let same = stands-one a x right in
            elim (stands-either (filter (stays m a) marks) (a ∷ []) y second) [
              | inl left2 ↦
                  let stay = not-true (m.good a y) (filtered (stays m a) marks y left2.0 left2.1).1 in
                  let P : L → Type 0 = λ z. m.good z y ≡ true in
                  let beats : m.good a y ≡ true = subst P (sym same) good in
                  absurd (cc)
              | inr right2 ↦ sym same ∙ stands-one a y right2
            ]
      ];
}

-- a mark that is met changes nothing
pub stayed : {L : Type 0} (m : Marking L) (marks : List L) (a : L) → IsMet m marks a → AreInserted m (a ∷ []) marks marks
stayed {L = L} m marks a met = record {
  only = λ b stands. inl stands;
  met = λ b stands.
      let same = stands-one a b stands in
      let P : L → Type 0 = λ x. IsMet m marks x in
      subst P same met;
  keeps = λ c other. other;
  alone = λ alone. alone;
}

-- what follows in case of success
pub on-ok : {A E P Q : Type 0} (r : Result A E) → OnOk r P → (P → Q) → OnOk r Q
on-ok (Ok a) h f = f h
on-ok (Err e) h f = tt

-- nothing is put in
pub none-inserted : {L : Type 0} (m : Marking L) (marks : List L) → AreInserted m [] marks marks
none-inserted m marks = record {
  only = λ b stands. inl stands;
  met = λ b stands. absurd (stands-none b stands);
  keeps = λ b met. met;
  alone = λ alone. alone;
}

-- Candidates may be put in one after another, in any groups: what the first group had met stays met when the second is put in. So
-- the whole level, the start and then the extensions of each mark, is one insertion of all its candidates, whatever the loop's steps
-- were.
pub more-inserted : {L : Type 0} (m : Marking L) (first second old now new : List L) → AreInserted m first old now →
    AreInserted m second now new → AreInserted m (first ++ second) old new
more-inserted m first second old now new one two = record {
  only = λ b stands. elim (two.only b stands) [
    | inl before ↦ elim (one.only b before) [ inl there ↦ inl there | inr put ↦ inr (stands-left first second b put) ]
    | inr put ↦ inr (stands-right first second b put)
  ];
  met = λ b stands. elim (stands-either first second b stands) [ inl put ↦ two.keeps b (one.met b put) | inr put ↦ two.met b put ];
  keeps = λ b met. two.keeps b (one.keeps b met);
  alone = λ alone. two.alone (one.alone alone);
}

pub listed-only : {L : Type 0} (o : Option L) (b : L) → StandsIn (listed o) b → o ≡ Some b
listed-only None b h = absurd (stands-none b h)
listed-only {L = L} (Some a) b h = ap (λ (x : L). Some x) (stands-one a b h)

pub listed-onto : {L : Type 0} (o : Option L) (b : L) → o ≡ Some b → StandsIn (listed o) b
listed-onto None b h = absurd (cc)
listed-onto (Some a) b h = (0, h)

pub nexts-only : {L : Type 0} (m : Marking L) (marks : List L) (item : ℕ) (b : L) → StandsIn (nexts m marks item) b →
    (a : L) × StandsIn marks a × (m.extend a item ≡ Some b)
nexts-only m [] item b h = absurd (stands-none b h)
nexts-only m (a ∷ rest) item b h = elim (stands-either (listed (m.extend a item)) (nexts m rest item) b h) [
  | inl left ↦ (a, (0, refl), listed-only (m.extend a item) b left)
  | inr right ↦ let (x, stands, is) = nexts-only m rest item b right in (x, (suc stands.0, stands.1), is)
]

pub nexts-onto : {L : Type 0} (m : Marking L) (marks : List L) (item : ℕ) (a b : L) (k : ℕ) → slice_get marks k ≡ Some a →
    m.extend a item ≡ Some b → StandsIn (nexts m marks item) b
nexts-onto m [] item a b k h is = absurd (get-none a k h)
nexts-onto {L = L} m (x ∷ rest) item a b zero h is =
    let same = same_Some x a h in
    let P : L → Type 0 = λ y. m.extend y item ≡ Some b in
    stands-left (listed (m.extend x item)) (nexts m rest item) b (listed-onto (m.extend x item) b (subst P (sym same) is))
nexts-onto m (x ∷ rest) item a b (suc k) h is =
    stands-right (listed (m.extend x item)) (nexts m rest item) b (nexts-onto m rest item a b k h is)
