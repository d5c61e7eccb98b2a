-- The marks that are made item by item and class by class are kept ones.
use Rattle.std.proofs.Common.{◌≡◌, ℕ, ◌+◌, ◌<◌, ◌≤◌, ◌⊎◌, inl, inr, List, [], ◌∷◌, ◌++◌, take, zero, suc, refl, sym, ap, ◌∙◌, arith, subst, append-nil, append_assoc}
use Rattle.std.specs.Prelude.{Option, Some, None, slice_get, unwrap_or}
use Rattle.cover_core.specs.Labels.{Labelling, label_after, label_of}
use Rattle.mark_cover.specs.Marking.{Marking, of_class, IsOrdered, IsPlaced}
use Rattle.mark_cover.specs.Covers.{StandsIn, IsMet}
use Rattle.mark_cover.specs.Minimal.{IsOpenMark, AreKept, AreSafe, AreGiven}
use Rattle.mark_cover.specs.Levels.{AreAlone, AreBelow, AreInserted, AreOfClass, listed, nexts}
use Rattle.mark_cover.proofs.Inserted.{more-inserted, stands-left, stands-right, stands-either, stands-none, listed-only, listed-onto, nexts-only, nexts-onto}

-- the label of a list with one item more
after-item : {L : Type 0} (w : Labelling L) (o : Option L) (xs : List ℕ) (a b : L) (item : ℕ) → label_after w o xs ≡ Some a →
    w.extend a item ≡ Some b →
    label_after w o (xs ++ item ∷ []) ≡ Some b
after-item w None [] a b item e is = absurd (cc)
after-item w None (x ∷ xs) a b item e is = absurd (cc)
after-item {L = L} w (Some c) [] a b item e is =
    let same : c ≡ a = (let P : Option L → Type 0 = λ o. o ≡ Some a in cc) in
    let Q : L → Type 0 = λ x. w.extend x item ≡ Some b in
    ap (λ o. label_after w o []) (subst Q (sym same) is)
after-item w (Some c) (x ∷ xs) a b item e is = after-item w (w.extend c x) xs a b item e is

of-item : {L : Type 0} (w : Labelling L) (list : List ℕ) (a b : L) (item : ℕ) → label_of w list ≡ Some a → w.extend a item ≡ Some b →
    label_of w (list ++ item ∷ []) ≡ Some b
of-item w [] a b item e is = absurd (cc)
of-item w (x ∷ xs) a b item e is = after-item w (w.start x) xs a b item e is

met-left : {L : Type 0} (m : Marking L) (xs ys : List L) (b : L) → IsMet m xs b → IsMet m (xs ++ ys) b
met-left m xs ys b met = (met.0, stands-left xs ys met.0 met.1, met.2)

met-right : {L : Type 0} (m : Marking L) (xs ys : List L) (b : L) → IsMet m ys b → IsMet m (xs ++ ys) b
met-right m xs ys b met = (met.0, stands-right xs ys met.0 met.1, met.2)

below-next : (k n : ℕ) → k < n + 1 → (k < n) ⊎ (k ≡ n)
below-next k n h = grind arith

-- the marks of a level
pub record IsLevel {L : Type 0} (m : Marking L) (class n : ℕ) (marks new : List L) : Type 0 where
  pub are_open : (a : L) → StandsIn new a → IsOpenMark m a
  pub in_class : (a : L) → StandsIn new a → m.class_of a ≡ class
  pub lasts : (a : L) → StandsIn new a → m.last a ≡ n
  pub starts : (b : L) → m.start class n ≡ Some b → IsMet m new b
  pub steps : (a b : L) → StandsIn marks a → m.extend a n ≡ Some b → IsMet m new b
  pub alone : AreAlone m new

-- what a candidate is
from-candidate : {L : Type 0} (m : Marking L) (class n : ℕ) (marks new : List L) (b : L) →
    AreInserted m (listed (m.start class n) ++ nexts m marks n) [] new → StandsIn new b →
    (m.start class n ≡ Some b) ⊎ ((a : L) × StandsIn marks a × (m.extend a n ≡ Some b))
from-candidate m class n marks new b inserted h = elim (inserted.only b h) [
  | inl none ↦ absurd (stands-none b none)
  | inr there ↦ elim (stands-either (listed (m.start class n)) (nexts m marks n) b there) [
    | inl first ↦ inl (listed-only (m.start class n) b first)
    | inr next ↦ inr (nexts-only m marks n b next)
  ]
]

-- what is made from the marks of the items before is a level
pub level-is : {L : Type 0} (m : Marking L) (class n : ℕ) (marks new : List L) → IsPlaced m → class < m.classes →
    AreOfClass m class n marks →
    AreInserted m (listed (m.start class n) ++ nexts m marks n) [] new → IsLevel m class n marks new
level-is {L = L} m class n marks new placed there old inserted = record {
  are_open = λ b h. elim (from-candidate m class n marks new b inserted h) [
    | inl first ↦ (class, there, n ∷ [], ap (λ o. label_after (of_class m class) o []) first)
    | inr next ↦
        let (a, stands, is) = next in
        let (k, below, list, has) = old.are_open a stands in
        (k, below, list ++ n ∷ [], of-item (of_class m k) list a b n has is)
  ];
  in_class = λ b h. elim (from-candidate m class n marks new b inserted h) [
    | inl first ↦ (placed.starts class n b first).1
    | inr next ↦ (placed.steps next.0 b n next.2).2 ∙ old.in_class next.0 next.1
  ];
  lasts = λ b h. elim (from-candidate m class n marks new b inserted h) [
    | inl first ↦ (placed.starts class n b first).2
    | inr next ↦ (placed.steps next.0 b n next.2).3
  ];
  starts = λ b e. inserted.met b (stands-left (listed (m.start class n)) (nexts m marks n) b (listed-onto (m.start class n) b e));
  steps = λ a b stands e. inserted.met b
      (stands-right (listed (m.start class n)) (nexts m marks n) b (nexts-onto m marks n a b stands.0 stands.1 e));
  alone = inserted.alone (λ a b first second good. absurd (stands-none a first));
}

-- One item more in a class keeps the invariant of the making: every start and every extension of a mark by an item so far is met,
-- and no mark is at least as good as another. Extensions by the new item are candidates of the new level, so they are met there; the
-- marks of the level have no extension by an item so far. Marks of different last items are never at least as good as one another,
-- so it suffices that within the level none is.
pub class-step : {L : Type 0} (m : Marking L) (class n : ℕ) (marks new : List L) → IsOrdered m → IsPlaced m → AreOfClass m class n marks →
    IsLevel m class n marks new →
    AreOfClass m class (n + 1) (marks ++ new)
class-step {L = L} m class n marks new ordered placed old next = record {
  are_open = λ a h. elim (stands-either marks new a h) [ inl left ↦ old.are_open a left | inr right ↦ next.are_open a right ];
  in_class = λ a h. elim (stands-either marks new a h) [ inl left ↦ old.in_class a left | inr right ↦ next.in_class a right ];
  lasts = λ a h. elim (stands-either marks new a h) [
    | inl left ↦ let below = old.lasts a left in omega arith
    | inr right ↦ let same =
        next.lasts a right in omega arith
  ];
  starts = λ item b below e. elim (below-next item n below) [
    | inl less ↦ met-left m marks new b (old.starts item b less e)
    | inr same ↦ let P : ℕ → Type 0 = λ k. m.start class k ≡ Some b in met-right m marks new b (next.starts b (subst P same e))
  ];
  steps = λ a b item h below e. elim (stands-either marks new a h) [
    | inl left ↦ elim (below-next item n below) [
      | inl less ↦ met-left m marks new b (old.steps a b item left less e)
      | inr same ↦ let P : ℕ → Type 0 = λ k. m.extend a k ≡ Some b in met-right m marks new b (next.steps a b left (subst P same e))
    ]
    | inr right ↦
        let last = next.lasts a right in
        let up = (placed.steps a b item e).0 in
        absurd (omega arith)
  ];
  alone = λ a b first second good.
      let same = (ordered.grouped a b good).1 in
      elim (stands-either marks new a first) [
        | inl left ↦ elim (stands-either marks new b second) [
          | inl left2 ↦ old.alone a b left left2 good
          | inr right2 ↦ let below = old.lasts a left in let last = next.lasts b right2 in absurd (omega arith)
        ]
        | inr right ↦ elim (stands-either marks new b second) [
          | inl left2 ↦ let below = old.lasts b left2 in let last = next.lasts a right in absurd (omega arith)
          | inr right2 ↦ next.alone a b right right2 good
        ]
      ];
}

pub class-none : {L : Type 0} (m : Marking L) (class : ℕ) → AreOfClass m class 0 []
class-none m class = record {
  are_open = λ a h. absurd (stands-none a h);
  in_class = λ a h. absurd (stands-none a h);
  lasts = λ a h. absurd (stands-none a h);
  starts = λ item b below e. absurd (omega arith);
  steps = λ a b item h below e. absurd (stands-none a h);
  alone = λ a b first second good. absurd (stands-none a first);
}

pub below-step : {L : Type 0} (m : Marking L) (k : ℕ) (marks new : List L) → IsOrdered m → IsPlaced m → AreBelow m k marks →
    AreOfClass m k m.items new → AreBelow m (k + 1) (marks ++ new)
below-step {L = L} m k marks new ordered placed old next = record {
  are_open = λ a h. elim (stands-either marks new a h) [ inl left ↦ old.are_open a left | inr right ↦ next.are_open a right ];
  classes = λ a h. elim (stands-either marks new a h) [
    | inl left ↦ let below = old.classes a left in omega arith
    | inr right ↦ let same =
        next.in_class a right in omega arith
  ];
  starts = λ class item b below e.
      let there = (placed.starts class item b e).0 in
      elim (below-next class k below) [
        | inl less ↦ met-left m marks new b (old.starts class item b less e)
        | inr same ↦ let P : ℕ → Type 0 = λ j. m.start j item ≡ Some b in
            met-right m marks new b (next.starts item b there (subst P same e))
      ];
  steps = λ a b item h e.
      let there = (placed.steps a b item e).1 in
      elim (stands-either marks new a h) [
        | inl left ↦ met-left m marks new b (old.steps a b item left e)
        | inr right ↦ met-right m marks new b (next.steps a b item right there e)
      ];
  alone = λ a b first second good.
      let same = (ordered.grouped a b good).0 in
      elim (stands-either marks new a first) [
        | inl left ↦ elim (stands-either marks new b second) [
          | inl left2 ↦ old.alone a b left left2 good
          | inr right2 ↦ let below = old.classes a left in let class = next.in_class b right2 in absurd (omega arith)
        ]
        | inr right ↦ elim (stands-either marks new b second) [
          | inl left2 ↦ let below = old.classes b left2 in let class = next.in_class a right in absurd (omega arith)
          | inr right2 ↦ next.alone a b right right2 good
        ]
      ];
}

pub below-none : {L : Type 0} (m : Marking L) → AreBelow m 0 []
below-none m = record {
  are_open = λ a h. absurd (stands-none a h);
  classes = λ a h. absurd (stands-none a h);
  starts = λ class item b below e. absurd (omega arith);
  steps = λ a b item h e. absurd (stands-none a h);
  alone = λ a b first second good. absurd (stands-none a first);
}

-- all marks that are made are kept ones
pub all-kept : {L : Type 0} (m : Marking L) (marks : List L) → AreBelow m m.classes marks → AreKept m marks
all-kept m marks all = record { are_open = all.are_open; starts = all.starts; steps = all.steps; alone = all.alone }

-- the marks of open lists are sound
after-sound : {L : Type 0} (m : Marking L) (sound : L → Type 0) (class : ℕ) → AreSafe m sound → (o : Option L) (xs : List ℕ) (a : L) →
    ((b : L) → o ≡ Some b → sound b) →
    label_after (of_class m class) o xs ≡ Some a → sound a
after-sound m sound class safe None xs a known e = absurd (cc)
after-sound m sound class safe (Some b) [] a known e = known a e
after-sound m sound class safe (Some b) (x ∷ xs) a known e =
    after-sound m sound class safe (m.extend b x) xs a (λ c is. safe.steps b c x (known b refl) is) e

list-sound : {L : Type 0} (m : Marking L) (sound : L → Type 0) (class : ℕ) → AreSafe m sound → (list : List ℕ) (a : L) →
    label_of (of_class m class) list ≡ Some a → sound a
list-sound m sound class safe [] a e = absurd (cc)
list-sound m sound class safe (x ∷ xs) a e = after-sound m sound class safe (m.start class x) xs a (λ b is. safe.starts class x b is) e

-- what a level is made from
pub class-given : {L : Type 0} (m : Marking L) (sound : L → Type 0) (class n : ℕ) (marks : List L) → AreSafe m sound → class < m.classes →
    n ≤ m.items → AreOfClass m class n marks →
    AreGiven m sound marks
class-given m sound class n marks safe there order all = record {
  are_sound = λ a h. let (k, below, list, has) = all.are_open a h in list-sound m sound k safe list a has;
  classes = λ a h. let same = all.in_class a h in omega (arith, there, same);
  lasts = λ a h. let below = all.lasts a h in omega (arith, order, below);
}

-- one mark more is extended
pub nexts-more : {L : Type 0} (m : Marking L) (marks : List L) (item place : ℕ) (a : L) → slice_get marks place ≡ Some a →
    nexts m (take (place + 1) marks) item ≡ nexts m (take place marks) item ++ listed (m.extend a item)
nexts-more m [] item place a h = absurd (cc)
nexts-more {L = L} m (x ∷ rest) item zero a h =
    let same : x ≡ a = (let f : Option L → L = λ o. unwrap_or o x in ap f h) in
    let P : L → Type 0 = λ y. nexts m (take 1 (x ∷ rest)) item ≡ listed (m.extend y item) in
    let one : nexts m (take 1 (x ∷ rest)) item ≡ listed (m.extend x item) = append-nil (listed (m.extend x item)) in
    subst P same one
nexts-more m (x ∷ rest) item (suc place) a h =
    let more = nexts-more m rest item place a h in
    let shifted : suc place + 1 ≡ suc (place + 1) = omega arith in
    rw shifted (ap (λ l. listed (m.extend x item) ++ l) more
    ∙ sym (append_assoc (listed (m.extend x item)) (nexts m (take place rest) item) (listed (m.extend a item))))

-- one step of the insertion of extensions
pub insert-step : {L : Type 0} (m : Marking L) (init marks : List L) (item place : ℕ) (a : L) (o : Option L) (now new : List L) →
    slice_get marks place ≡ Some a → o ≡ m.extend a item →
    AreInserted m (nexts m (take place marks) item) init now → AreInserted m (listed o) now new →
    AreInserted m (nexts m (take (place + 1) marks) item) init new
insert-step {L = L} m init marks item place a o now new at is before after =
    let P : Option L → Type 0 = λ x. AreInserted m (listed x) now new in
    let Q : List L → Type 0 = λ l. AreInserted m l init new in
    subst Q (sym (nexts-more m marks item place a at))
    (more-inserted m (nexts m (take place marks) item) (listed (m.extend a item)) init now new before (subst P is after))
