-- Promise: how marks are made, and the laws of marks.
use Rattle.std.specs.Prelude.{◌≡◌, ℕ, ℤ, ◌<◌, ◌≤ℤ◌, Bool, true, List, length, Option, Some}
use Rattle.plan_core.specs.declared.Price.{Price}
use Rattle.cover_core.specs.Cover.{Problem}
use Rattle.cover_core.specs.Labels.{Labelling, IsKept}
use Rattle.label_search.specs.Laws.{GoodAs}
use Rattle.label_search.specs.Pricing.{IsTied}

-- Marks of open lists of a number of items in several classes: that of a list of one item, that of a list with one item more, the value
-- with which a list closes, whether a mark is at least as good as another, and a mark's class and last item.
pub record Marking (L : Type 0) : Type 0 where
  pub items : ℕ
  pub classes : ℕ
  pub start : ℕ → ℕ → Option L
  pub extend : L → ℕ → Option L
  pub close : L → Option ℤ
  pub good : L → L → Bool
  pub class_of : L → ℕ
  pub last : L → ℕ

-- the marks of one class
abbrev pub of_class : {L : Type 0} → Marking L → ℕ → Labelling L
of_class m class = record { start = m.start class; extend = m.extend }

-- A mark that is at least as good as another has its class and last item, and closes with no greater value wherever the other closes.
pub record IsOrdered {L : Type 0} (m : Marking L) : Type 0 where
  pub kept : (class : ℕ) → IsKept (of_class m class) (GoodAs m.good)
  pub grouped : (a b : L) → m.good a b ≡ true → (m.class_of a ≡ m.class_of b) × (m.last a ≡ m.last b)
  pub closes : (a b : L) (v : ℤ) → m.good a b ≡ true → m.close b ≡ Some v → (u : ℤ) × (m.close a ≡ Some u) × (u ≤ℤ v)

-- Lists have items of the problem, and a mark knows its list's class and last item; a later item is put behind it.
pub record IsPlaced {L : Type 0} (m : Marking L) : Type 0 where
  pub starts : (class item : ℕ) (b : L) → m.start class item ≡ Some b → (item < m.items) × (m.class_of b ≡ class) × (m.last b ≡ item)
  pub steps : (a b : L) (item : ℕ) → m.extend a item ≡ Some b →
      (m.last a < item) × (item < m.items) × (m.class_of b ≡ m.class_of a) × (m.last b ≡ item)

-- The marks are those of a problem under prices: a list has a worth in a class exactly where it has a mark of the class that closes, and
-- it closes with a thousand times its worth less the prices of its items.
pub record AreMarksOf {L : Type 0} (m : Marking L) (p : Problem) (prices : List Price) : Type 0 where
  pub classes : length p.caps ≡ m.classes
  pub tied : (class : ℕ) → class < length p.caps → IsTied (of_class m class) m.close prices (p.worth class)
