-- Kept marks in rising order are a cover, where all classes are paid.
use Rattle.std.proofs.Common.{◌≡◌, ℕ, ℤ, neg_ℤ, ◌<◌, ◌<ℤ◌, Bool, true, List, [], ◌∷◌, length, Some, None, Option, Result, Ok, Err, IfOk, refl, sym, subst, ◌∙◌, arith}
use Rattle.std.proofs.lemmas.Int.{ints}
use Rattle.std.proofs.lemmas.List.Elements.{All-from_recursion}
use Rattle.std.proofs.lemmas.List.Kept.{AllPairs-cons}
use Rattle.std.proofs.lemmas.Option.{slice_get_read, slice_get_within, get_or_from_slice_get}
use Rattle.std.specs.Prelude.{AllPairs, Contains}
use Rattle.std.specs.List.Sorted.{IsStrictlySortedBy}
use Rattle.std.specs.declared.cmp.Ordering.{Ordering}
use Rattle.std.specs.declared.cmp.Ordering.TheVariants.{Less, Equal, Greater}
use Rattle.std.specs.Ordering.{is_eq}
use Rattle.plan_core.specs.declared.Price.{Price}
use Rattle.cover_core.specs.Cover.{Problem}
use Rattle.cover_core.specs.Labels.{label_after, label_of}
use Rattle.cover_core.specs.Plans.{number_at}
use Rattle.mark_cover.specs.Covers.{ClosesBelow, IsMarkCover, StandsIn}
use Rattle.mark_cover.specs.Marking.{AreMarksOf, IsPlaced, Marking, of_class}
use Rattle.mark_cover.specs.Minimal.{AreKept}
use Rattle.mark_cover.specs.Searches.{AreThere}
use Rattle.unpaid_list.specs.Laws.{TellsMarksApart}
use Rattle.unpaid_list.specs.Unpaid.{AreClassesPaid}

pub rising-pairs : {L : Type 0} (order : L → L → Ordering) (xs : List L) → IsStrictlySortedBy order xs →
    AllPairs (λ (a b : L). order a b ≡ Less) xs
unfolding IsStrictlySortedBy
rising-pairs order [] h = λ i j d below there. absurd (omega arith)
rising-pairs {L = L} order (x ∷ xs) h =
    let R : L → L → Type 0 = λ a b. order a b ≡ Less in
    AllPairs-cons R x xs (All-from_recursion (R x) xs h.0) (rising-pairs order xs h.1)

stands-contains : {L : Type 0} (xs : List L) (a : L) → StandsIn xs a → Contains xs a
stands-contains xs a h = (h.0, slice_get_within xs h.0 a h.1, get_or_from_slice_get xs h.0 a a h.1)

contains-stands : {L : Type 0} (xs : List L) (a : L) → Contains xs a → StandsIn xs a
contains-stands xs a h = (h.0, slice_get_read xs (length xs) h.0 a refl h.1 (sym h.2))

module _ {L : Type 0} (m : Marking L) where
  -- The same marks in other places. Marks are kept as a set; to sort them and to take repeats away moves them to other places, and
  -- each promise of kept marks only asks that marks stand somewhere among them.
  pub kept-same : (xs ys : List L) → ((a : L) → Contains xs a → Contains ys a) → ((a : L) → Contains ys a → Contains xs a) →
      AreKept m xs → AreKept m ys
  kept-same xs ys onto from kept =
      let over : (a : L) → StandsIn xs a → StandsIn ys a = λ a h. contains-stands ys a (onto a (stands-contains xs a h)) in
      let back : (a : L) → StandsIn ys a → StandsIn xs a = λ a h. contains-stands xs a (from a (stands-contains ys a h)) in
      record {
        are_open = λ a h. kept.are_open a (back a h);
        starts = λ class item b there e. let met = kept.starts class item b there e in (met.0, over met.0 met.1, met.2);
        steps = λ a b item h e. let met = kept.steps a b item (back a h) e in (met.0, over met.0 met.1, met.2);
        alone = λ a b first second good. kept.alone a b (back a first) (back b second) good;
      }

  -- a list's mark has the list's class
  after-class : IsPlaced m → (class : ℕ) (o : Option L) (xs : List ℕ) (b : L) → ((a : L) → o ≡ Some a → m.class_of a ≡ class) →
      label_after (of_class m class) o xs ≡ Some b → m.class_of b ≡ class
  after-class placed class None xs b known e = absurd (cc)
  after-class placed class (Some a) [] b known e = known b e
  after-class placed class (Some a) (x ∷ xs) b known e =
      after-class placed class (m.extend a x) xs b (λ c is. (placed.steps a c x is).2 ∙ known a refl) e

  list-class : IsPlaced m → (class : ℕ) (list : List ℕ) (b : L) → label_of (of_class m class) list ≡ Some b → m.class_of b ≡ class
  list-class placed class [] b e = absurd (cc)
  list-class placed class (x ∷ xs) b e = after-class placed class (m.start class x) xs b (λ a is. (placed.starts class x a is).1) e

  after-last : IsPlaced m → (class : ℕ) (o : Option L) (xs : List ℕ) (b : L) → ((a : L) → o ≡ Some a → m.last a < m.items) →
      label_after (of_class m class) o xs ≡ Some b → m.last b < m.items
  after-last placed class None xs b known e = absurd (cc)
  after-last placed class (Some a) [] b known e = known b e
  after-last placed class (Some a) (x ∷ xs) b known e =
      after-last placed class (m.extend a x) xs b (λ c is. let step = placed.steps a c x is in let below = step.1 in let same =
      step.3 in omega (arith, below, same)) e

  list-last : IsPlaced m → (class : ℕ) (list : List ℕ) (b : L) → label_of (of_class m class) list ≡ Some b → m.last b < m.items
  list-last placed class [] b e = absurd (cc)
  list-last placed class (x ∷ xs) b e =
      after-last placed class (m.start class x) xs b (λ a is. let first = placed.starts class x a is in let below = first.0 in let same =
      first.2 in omega (arith, below, same)) e

  -- the classes and last items of kept marks are there
  pub kept-there : (marks : List L) → IsPlaced m → AreKept m marks → AreThere m marks
  kept-there marks placed kept = λ k a at.
      let (class, there, list, has) = kept.are_open a (k, at) in
      let same = list-class placed class list a has in
      (omega (arith, there, same), list-last placed class list a has)

  -- kept marks are a cover, where none of them closes below minus its class price
  pub high-cover : (marks : List L) (class_prices : List ℤ) → AreKept m marks →
      ((a : L) → StandsIn marks a → ClosesBelow m class_prices a → ⊥) → IsMarkCover m marks class_prices
  high-cover marks class_prices kept high = record { starts = kept.starts; steps = kept.steps; closes = high }

  -- No kept mark closes below minus its class price, since it is a list's mark, and that list would be unpaid. A kept mark is open by
  -- a list of items, and if it closed too low, that list would have a worth, by the tie, and a value below minus the price of its
  -- class, against the search that found all classes paid. That lists of one item and extensions are met is what kept marks are. So
  -- the answer is a cover exactly where no list is unpaid.
  pub paid-cover : (p : Problem) (prices : List Price) (class_prices : List ℤ) (marks : List L) → IsPlaced m →
      AreMarksOf m p prices → AreKept m marks →
      AreClassesPaid p prices class_prices (length p.caps) → IsMarkCover m marks class_prices
  paid-cover p prices class_prices marks placed marks_of kept paid = record {
    starts = kept.starts;
    steps = kept.steps;
    closes = λ a stands low.
        let (class, there, list, has) = kept.are_open a stands in
        let same = marks_of.classes in
        let below : class < length p.caps = omega (arith, there, same) in
        let (v, closes, under) = low in
        let (worth, is_worth, value) = (marks_of.tied class below).from list a v has closes in
        let high = paid class below list worth is_worth in
        let P : ℕ → Type 0 = λ k. v <ℤ neg_ℤ (number_at class_prices k) in
        let less = subst P (list-class placed class list a has) under in
        omega (arith, ints, value, high, less);
  }

-- what holds of a value holds of each answer that is this value
pub ok-from : {A E : Type 0} (answer : Result A E) (a : A) (P : A → Type 0) → IfOk answer (λ x. x ≡ a) → P a → IfOk answer P
ok-from (Ok x) a P same holds = subst P (sym same) holds
ok-from (Err e) a P same holds = tt

equal-of : (o : Ordering) → is_eq o ≡ true → o ≡ Equal
equal-of Less e = absurd (cc)
equal-of Equal e = refl
equal-of Greater e = absurd (cc)

-- where the order tells apart, what counts as equal is the same
pub exact-by-order : {L : Type 0} (order : L → L → Ordering) (E : L → L → Bool) → ((x y : L) → E x y ≡ is_eq (order x y)) →
    TellsMarksApart order → (x y : L) → E x y ≡ true → x ≡ y
exact-by-order order E ties apart x y e = apart x y (equal-of (order x y) (sym (ties x y) ∙ e))
