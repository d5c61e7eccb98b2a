-- A limit hides no list that closes within it.
use Rattle.std.proofs.Common.{◌≡◌, ℕ, ℤ, ◌≤ℤ◌, ◌<ℤ◌, ◌⊎◌, inl, inr, Bool, true, false, cond, List, [], ◌∷◌, refl, ap, ◌∙◌, arith, subst}
use Rattle.std.proofs.lemmas.Int.{ints}
use Rattle.std.specs.Prelude.{Option, Some, None, int_le, unwrap_or}
use Rattle.cover_core.specs.Labels.{Labelling, label_after, label_of, IsKept, IsValued}
use Rattle.label_search.specs.Laws.{IsStepwise, IsSafe, HidesNone, IsFloor}
use Rattle.label_search.specs.Limits.{passed, limited, is_low}
use Rattle.label_search.specs.Answers.{IsLeastClosed, NoneCloses, AllCloseAbove}

pub order : (x y : ℤ) → (x ≤ℤ y) ⊎ (y <ℤ x)
order x y = elim (int_le x y) as (λ t. int_le x y ≡ t → (x ≤ℤ y) ⊎ (y <ℤ x)) [
  | true ↦ λ is. inl (grind (arith, ints))
  | false ↦
      λ is. inr (grind (arith, ints))
] refl

pub passed-Some : {L : Type 0} (test : L → Bool) (o : Option L) (b : L) → passed test o ≡ Some b → (o ≡ Some b) × (test b ≡ true)
passed-Some test None b e = absurd (cc)
passed-Some {L = L} test (Some a) b e =
    elim (test a) as (λ t. test a ≡ t → cond t (Some a) None ≡ Some b → (Some a ≡ Some b) × (test b ≡ true)) [
      | true ↦ λ is e'.
          let same : a ≡ b = let f : Option L → L = λ o. unwrap_or o a in ap f e' in
          let P : L → Type 0 = λ x. test x ≡ true in
          (e', subst P same is)
      | false ↦ λ is e'. absurd (cc)
    ] refl e

pub onto-passed : {L : Type 0} (test : L → Bool) (o : Option L) (b : L) → o ≡ Some b → test b ≡ true → passed test o ≡ Some b
onto-passed test o b e h = ap (passed test) e ∙ ap (λ t. cond t (Some b) None) h

-- the laws of labels stay
pub limited-kept : {L : Type 0} (w : Labelling L) (good : L → L → Type 0) (test : L → Bool) →
    ((a b : L) → good a b → test b ≡ true → test a ≡ true) →
    IsKept w good → IsKept (limited w test) good
limited-kept w good test ordered k = record {
  same = k.same;
  through = k.through;
  extended = λ a b b' item h e.
      let (made, passes) = passed-Some test (w.extend b item) b' e in
      let (a', is, better) = k.extended a b b' item h made in
      (a', onto-passed test (w.extend a item) a' is (ordered a' b' better passes), better);
}

pub limited-valued : {L : Type 0} (w : Labelling L) (good : L → L → Type 0) (value_at : L → ℤ) (close : L → Option ℤ) (test : L → Bool) →
    IsValued w good value_at close → IsValued (limited w test) good value_at close
limited-valued w good value_at close test v = record {
  at_most = v.at_most;
  apart = λ a b a' b' item h less ea eb. v.apart a b a' b' item h less (passed-Some test (w.extend a item) a' ea).0
      (passed-Some test (w.extend b item) b' eb).0;
  closes = v.closes;
}

pub limited-stepwise : {L : Type 0} (w : Labelling L) (count : ℕ) (last : L → ℕ) (test : L → Bool) → IsStepwise w count last →
    IsStepwise (limited w test) count last
limited-stepwise w count last test s = record {
  starts = λ item a e. s.starts item a (passed-Some test (w.start item) a e).0;
  steps = λ a b item e. s.steps a b item (passed-Some test (w.extend a item) b e).0;
}

pub limited-safe : {L : Type 0} (w : Labelling L) (sound : L → Type 0) (test : L → Bool) → IsSafe w sound → IsSafe (limited w test) sound
limited-safe w sound test s = record {
  starts = λ item a e. s.starts item a (passed-Some test (w.start item) a e).0;
  steps = λ a b item h e. s.steps a b item h (passed-Some test (w.extend a item) b e).0;
}

-- a label of a limited list is its label
after-limited : {L : Type 0} (w : Labelling L) (test : L → Bool) (xs : List ℕ) (a b : L) →
    label_after (limited w test) (Some a) xs ≡ Some b → label_after w (Some a) xs ≡ Some b
after-limited w test [] a b e = e
after-limited {L = L} w test (x ∷ xs) a b e =
    elim (passed test (w.extend a x)) as (λ o. passed test (w.extend a x) ≡ o → label_after (limited w test) o xs ≡ Some b →
    label_after w (Some a) (x ∷ xs) ≡ Some b) [
      | None ↦ λ is e'. absurd (cc)
      | Some c ↦ λ is e'.
          let made = (passed-Some test (w.extend a x) c is).0 in
          ap (λ o. label_after w o xs) made ∙ after-limited w test xs c b e'
    ] refl e

pub from-limited : {L : Type 0} (w : Labelling L) (test : L → Bool) (xs : List ℕ) (b : L) → label_of (limited w test) xs ≡ Some b →
    label_of w xs ≡ Some b
from-limited w test [] b e = absurd (cc)
from-limited {L = L} w test (x ∷ xs) b e =
    elim (passed test (w.start x)) as (λ o. passed test (w.start x) ≡ o → label_after (limited w test) o xs ≡ Some b →
    label_after w (w.start x) xs ≡ Some b) [
      | None ↦ λ is e'. absurd (cc)
      | Some c ↦ λ is e'.
          let made = (passed-Some test (w.start x) c is).0 in
          ap (λ o. label_after w o xs) made ∙ after-limited w test xs c b e'
    ] refl e

-- A label passes the limit's test where one that goes on from it does, over any number of items: each step of the law carries it
-- back by one item. So a list that closes within the limit has passed all the way, and cutting labels off by the test cuts no part
-- of it.
passes-before : {L : Type 0} (w : Labelling L) (good : L → L → Bool) (close : L → Option ℤ) (sound : L → Type 0)
    (may_close : ℤ → L → Bool) (limit : ℤ) →
    IsSafe w sound → HidesNone w good close sound may_close → (xs : List ℕ) (a b : L) → sound a → may_close limit b ≡ true →
    label_after w (Some a) xs ≡ Some b → may_close limit a ≡ true
passes-before {L = L} w good close sound may_close limit s h [] a b fits passes e =
    let same : a ≡ b = let g : Option L → L = λ o. unwrap_or o a in ap g e in
    ap (may_close limit) same ∙ passes
passes-before {L = L} w good close sound may_close limit s h (x ∷ xs) a b fits passes e =
    elim (w.extend a x) as (λ o. w.extend a x ≡ o → label_after w o xs ≡ Some b → may_close limit a ≡ true) [
      | None ↦ λ is e'. absurd (cc)
      | Some c ↦ λ is e'. h.steps limit a c x fits is
          (passes-before w good close sound may_close limit s h xs c b (s.steps a c x fits is) passes e')
    ] refl e

onto-after : {L : Type 0} (w : Labelling L) (good : L → L → Bool) (close : L → Option ℤ) (sound : L → Type 0)
    (may_close : ℤ → L → Bool) (limit : ℤ) →
    IsSafe w sound → HidesNone w good close sound may_close → (xs : List ℕ) (a b : L) → sound a → may_close limit b ≡ true →
    label_after w (Some a) xs ≡ Some b → label_after (limited w (may_close limit)) (Some a) xs ≡ Some b
onto-after w good close sound may_close limit s h [] a b fits passes e = e
onto-after {L = L} w good close sound may_close limit s h (x ∷ xs) a b fits passes e =
    let test : L → Bool = may_close limit in
    elim (w.extend a x) as (λ o. w.extend a x ≡ o → label_after w o xs ≡ Some b →
    label_after (limited w test) (passed test o) xs ≡ Some b) [
      | None ↦ λ is e'. absurd (cc)
      | Some c ↦ λ is e'.
          let fits' = s.steps a c x fits is in
          let same : passed test (Some c) ≡ Some c =
          onto-passed test (Some c) c refl (passes-before w good close sound may_close limit s h xs c b fits' passes e') in
          ap (λ o. label_after (limited w test) o xs) same ∙ onto-after w good close sound may_close limit s h xs c b fits' passes e'
    ] refl e

sound-after : {L : Type 0} (w : Labelling L) (sound : L → Type 0) → IsSafe w sound → (xs : List ℕ) (a b : L) → sound a →
    label_after w (Some a) xs ≡ Some b → sound b
sound-after {L = L} w sound s [] a b fits e =
    let same : a ≡ b = let g : Option L → L = λ o. unwrap_or o a in ap g e in subst sound same fits
sound-after {L = L} w sound s (x ∷ xs) a b fits e =
    elim (w.extend a x) as (λ o. w.extend a x ≡ o → label_after w o xs ≡ Some b → sound b) [
      | None ↦ λ is e'. absurd (cc)
      | Some c ↦ λ is e'. sound-after w sound s xs c b (s.steps a c x fits is) e'
    ] refl e

-- The limit hides no list that closes within it: such a list has the same label in the labelling that drops what does not pass. The
-- label that closes passes, and by `passes-before` each one before it does; so no step of the list is dropped. With `from-limited`,
-- by which a label among the limited ones is the list's own, the two labellings agree on all lists within the limit.
pub onto-limited : {L : Type 0} (w : Labelling L) (good : L → L → Bool) (close : L → Option ℤ) (sound : L → Type 0)
    (may_close : ℤ → L → Bool) (limit : ℤ) →
    IsSafe w sound → HidesNone w good close sound may_close → (xs : List ℕ) (b : L) (v : ℤ) →
    label_of w xs ≡ Some b → close b ≡ Some v → v ≤ℤ limit → label_of (limited w (may_close limit)) xs ≡ Some b
onto-limited w good close sound may_close limit s h [] b v e c low = absurd (cc)
onto-limited {L = L} w good close sound may_close limit s h (x ∷ xs) b v e c low =
    let test : L → Bool = may_close limit in
    elim (w.start x) as (λ o. w.start x ≡ o → label_after w o xs ≡ Some b → label_after (limited w test) (passed test o) xs ≡ Some b) [
      | None ↦ λ is e'. absurd (cc)
      | Some a ↦ λ is e'.
          let fits = s.starts x a is in
          let passes = h.closes limit b v (sound-after w sound s xs a b fits e') c low in
          let same : passed test (Some a) ≡ Some a =
          onto-passed test (Some a) a refl (passes-before w good close sound may_close limit s h xs a b fits passes e') in
          ap (λ o. label_after (limited w test) o xs) same ∙ onto-after w good close sound may_close limit s h xs a b fits passes e'
    ] refl e

-- What a search under a limit finds within the limit is the first least of all lists. Another list closes within the limit, and then
-- it is among the limited ones, none of which comes first; or it closes above the limit, and so above what was found. So a search
-- may try small limits first: they change the time alone.
pub least-within : {L : Type 0} (w : Labelling L) (good : L → L → Bool) (close : L → Option ℤ) (sound : L → Type 0)
    (may_close : ℤ → L → Bool) (limit : ℤ) →
    IsSafe w sound → HidesNone w good close sound may_close → (list : List ℕ) (least : ℤ) →
    IsLeastClosed (limited w (may_close limit)) close list least → least ≤ℤ limit → IsLeastClosed w close list least
least-within w good close sound may_close limit s h list least is low = record {
  label = is.label;
  label_is = from-limited w (may_close limit) list is.label is.label_is;
  closes = is.closes;
  first = record {
    at_least = λ xs b v e c.
        elim (order v limit) [
          | inl small ↦ is.first.at_least xs b v (onto-limited w good close sound may_close limit s h xs b v e c small) c
          | inr large ↦ omega (arith, ints)
        ];
    first = λ xs b e c. is.first.first xs b (onto-limited w good close sound may_close limit s h xs b least e c low) c;
  };
}

-- where no limited list closes, or the least one above the limit, all lists close above it
pub above-none : {L : Type 0} (w : Labelling L) (good : L → L → Bool) (close : L → Option ℤ) (sound : L → Type 0)
    (may_close : ℤ → L → Bool) (limit : ℤ) →
    IsSafe w sound → HidesNone w good close sound may_close → NoneCloses (limited w (may_close limit)) close → AllCloseAbove w close limit
above-none w good close sound may_close limit s h none = λ xs b v e c.
    elim (order v limit) [
      | inl small ↦ absurd (none xs b v (onto-limited w good close sound may_close limit s h xs b v e c small) c)
      | inr large ↦ large
    ]

pub above-least : {L : Type 0} (w : Labelling L) (good : L → L → Bool) (close : L → Option ℤ) (sound : L → Type 0)
    (may_close : ℤ → L → Bool) (limit : ℤ) →
    IsSafe w sound → HidesNone w good close sound may_close → (list : List ℕ) (least : ℤ) →
    IsLeastClosed (limited w (may_close limit)) close list least → limit <ℤ least → AllCloseAbove w close limit
above-least w good close sound may_close limit s h list least is high = λ xs b v e c.
    elim (order v limit) [
      | inl small ↦ absurd (let bound = is.first.at_least xs b v (onto-limited w good close sound may_close limit s h xs b v e c small) c in
          omega (arith, ints))
      | inr large ↦ large
    ]

low-is : (x y : ℤ) → int_le x y ≡ true → x ≤ℤ y
low-is x y h = grind (arith, ints)

is-low : (x y : ℤ) → x ≤ℤ y → int_le x y ≡ true
is-low x y h = grind (arith, ints)

-- A completion bound gives a test that hides no list: a label whose bound is above the limit is dropped. A closing is at least the
-- bound, a bound never falls from a label to its extension, and of two labels the one at least as good has no greater bound. These
-- are the three laws that `HidesNone` asks for, each by one inequality.
pub floor-hides : {L : Type 0} (w : Labelling L) (good : L → L → Bool) (close : L → Option ℤ) (sound : L → Type 0) (floor : L → ℤ) →
    ((a b : L) → good a b ≡ true → floor a ≤ℤ floor b) → IsFloor w close sound floor → HidesNone w good close sound (is_low floor)
floor-hides w good close sound floor rises f = record {
  closes = λ limit a v fits e low. let least = f.closes a v fits e in is-low (floor a) limit (omega (arith, ints));
  steps = λ limit a b item fits e passes. let more = f.steps a b item fits e in let low = low-is (floor b) limit passes in
      is-low (floor a) limit (omega (arith, ints));
  ordered = λ limit a b h passes. let more = rises a b h in let low = low-is (floor b) limit passes in
      is-low (floor a) limit (omega (arith, ints));
}
