-- A cover pays.
use Rattle.std.proofs.Common.{◌≡◌, ℕ, ℤ, neg_ℤ, ◌≤ℤ◌, ◌<ℤ◌, ◌<◌, List, length, ◌∙◌, arith, subst}
use Rattle.std.proofs.lemmas.Int.{ints}
use Rattle.plan_core.specs.declared.Price.{Price}
use Rattle.cover_core.specs.Cover.{Problem}
use Rattle.cover_core.specs.Plans.{value_of, number_at}
use Rattle.cover_core.specs.FirstLeast.{IsAtMostAll}
use Rattle.cover_core.specs.Labels.{IsCover}
use Rattle.cover_core.proofs.Labels.{covers}
use Rattle.label_search.specs.Laws.{GoodAs}
use Rattle.mark_cover.specs.Marking.{Marking, of_class, IsOrdered, IsPlaced, AreMarksOf}
use Rattle.mark_cover.specs.Covers.{StandsIn, IsMarkCover, CoverIsPaid}

-- a mark of the list that has this class
abbrev KeptIn : {L : Type 0} → Marking L → List L → ℕ → L → Type 0
KeptIn m marks class a = StandsIn marks a × (m.class_of a ≡ class)

-- the marks of a class cover the lists of that class
class-cover : {L : Type 0} (m : Marking L) (marks : List L) (class_prices : List ℤ) (class : ℕ) → IsOrdered m →
    IsPlaced m → class < m.classes →
    IsMarkCover m marks class_prices → IsCover (of_class m class) (GoodAs m.good) (KeptIn m marks class)
class-cover m marks class_prices class ordered placed there cover = record {
  starts = λ item b e.
      let (a, stands, good) = cover.starts class item b there e in
      let at_start = placed.starts class item b e in
      (a, (stands, (ordered.grouped a b good).0 ∙ at_start.1), good);
  steps = λ a b item kept e.
      let (c, stands, good) = cover.steps a b item kept.0 e in
      let at_step = placed.steps a b item e in
      (c, (stands, (ordered.grouped c b good).0 ∙ (at_step.2 ∙ kept.1)), good);
}

not-below : (u v : ℤ) → ((u <ℤ v) → ⊥) → v ≤ℤ u
not-below u v h = grind (arith, ints)

-- Under a cover no list of a class has a value below minus the class price: what a search would have to find out is read off the
-- marks. The list has a mark that closes with its value; by the laws of dominance some mark of the cover is at least as good, of the
-- same class, and closes with no more; and none of the cover closes below minus its class price. The marks may come from anywhere,
-- since only their being a cover is used.
pub cover-at-least : {L : Type 0} (m : Marking L) (p : Problem) (prices : List Price) (marks : List L) (class_prices : List ℤ) →
    IsOrdered m → IsPlaced m → AreMarksOf m p prices →
    IsMarkCover m marks class_prices → (class : ℕ) → class < length p.caps →
    IsAtMostAll p prices class (neg_ℤ (number_at class_prices class))
cover-at-least {L = L} m p prices marks class_prices ordered placed marks_of cover class below = λ list worth e.
    let same = marks_of.classes in
    let there : class < m.classes = omega arith in
    let tied = marks_of.tied class below in
    let (b, has, closed) = tied.onto list worth e in
    let (a, kept, good) = covers (of_class m class) (GoodAs m.good) (KeptIn m marks class) (ordered.kept class)
    (class-cover m marks class_prices class ordered placed there cover) list b has in
    let (u, closes, below_value) = ordered.closes a b (value_of prices worth list) good closed in
    let refuted : (u <ℤ neg_ℤ (number_at class_prices (m.class_of a))) → ⊥ = λ low. cover.closes a kept.0 (u, closes, low) in
    let P : ℕ → Type 0 = λ k. neg_ℤ (number_at class_prices k) ≤ℤ u in
    let least = subst P kept.1 (not-below u (neg_ℤ (number_at class_prices (m.class_of a))) refuted) in
    omega (arith, ints, least, below_value)

-- A cover with class prices of at least 0 proves that the prices are paid (dual feasible): the least value of each class is at least
-- minus its class price (`cover-at-least`), which is the inequality that a bound asks of each column. It is the contract of
-- `cover_is_paid`, by which a certificate's bound is believed without a search.
pub cover-is-paid : {L : Type 0} (m : Marking L) (p : Problem) (prices : List Price) → IsOrdered m → IsPlaced m →
    AreMarksOf m p prices → CoverIsPaid m p prices
cover-is-paid {L = L} m p prices ordered placed marks_of marks class_prices charged cover = record {
  charged = λ class below. let same = marks_of.classes in charged class (omega arith);
  covered = λ class list worth below e.
      let least = cover-at-least m p prices marks class_prices ordered placed marks_of cover class below list worth e in
      omega (arith, ints);
}
