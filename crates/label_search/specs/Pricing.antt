-- Promise: from labels to columns: the labels of a class and group, and what ties them to worths.
use Rattle.std.specs.Prelude.{◌≡◌, ℕ, ℤ, pos, neg_ℤ, ◌+ℤ◌, ◌≤ℤ◌, ◌*◌, ◌/◌, nat_eq, nat_le, nat_lt, Bool, ◌&&◌, cond, Contains, List, Option, Some, None}
use Rattle.std.specs.Option.{option_map}
use Rattle.plan_core.specs.declared.Price.{Price}
use Rattle.cover_core.specs.declared.Column.{Column}
use Rattle.cover_core.specs.Cover.{Problem}
use Rattle.cover_core.specs.Plans.{price_of, value_of}
use Rattle.cover_core.specs.FirstLeast.{InGroup}
use Rattle.cover_core.specs.Labels.{Labelling, label_of, IsCover}

-- the lists whose first item passes a test
abbrev pub of_start : {L : Type 0} → Labelling L → (ℕ → Bool) → Labelling L
of_start w begins = record {
  start = λ item. cond (begins item) (w.start item) None;
  extend = w.extend;
}

-- the lists whose first item is one of 16 * group to 16 * group + 15
abbrev pub of_group : {L : Type 0} → Labelling L → ℕ → Labelling L
of_group w group = of_start w (λ item. nat_eq (item / 16) group)

-- whether an item is one from a first one on and before an end
abbrev pub is_between : ℕ → ℕ → ℕ → Bool
is_between first end item = nat_le first item && nat_lt item end

-- the lists whose first item is one from a first one on and before an end
abbrev pub of_range : {L : Type 0} → Labelling L → ℕ → ℕ → Labelling L
of_range w first end = of_start w (is_between first end)

-- a list has a worth exactly where it has a label that closes, and it closes with its value
pub record IsTied {L : Type 0} (w : Labelling L) (close : L → Option ℤ) (prices : List Price) (worth_of : List ℕ → Option ℕ) : Type 0 where
  pub onto : (list : List ℕ) (worth : ℕ) → worth_of list ≡ Some worth →
      (a : L) × (label_of w list ≡ Some a) × (close a ≡ Some (value_of prices worth list))
  pub from : (list : List ℕ) (a : L) (v : ℤ) → label_of w list ≡ Some a → close a ≡ Some v →
      (worth : ℕ) × (worth_of list ≡ Some worth) × (v ≡ value_of prices worth list)

-- the same for the lists of a group, and no others
pub record IsTiedInGroup {L : Type 0} (w : Labelling L) (close : L → Option ℤ) (prices : List Price) (group : ℕ)
    (worth_of : List ℕ → Option ℕ) : Type 0 where
  pub onto : (list : List ℕ) (worth : ℕ) → worth_of list ≡ Some worth → InGroup group list →
      (a : L) × (label_of w list ≡ Some a) × (close a ≡ Some (value_of prices worth list))
  pub from : (list : List ℕ) (a : L) (v : ℤ) → label_of w list ≡ Some a → close a ≡ Some v →
      InGroup group list × (worth : ℕ) × (worth_of list ≡ Some worth) × (v ≡ value_of prices worth list)

-- labels of a cover pay: where none of them closes below minus the class price, no list with a worth has a value below it
abbrev pub CoverPays : {L : Type 0} → Labelling L → (L → L → Type 0) → (L → Option ℤ) → Type 0
CoverPays {L} w good close =
    (kept : List L) (prices : List Price) (worth_of : List ℕ → Option ℕ) (class_price : ℤ) →
    IsTied w close prices worth_of → IsCover w good (Contains kept) →
    ((a : L) (u : ℤ) → Contains kept a → close a ≡ Some u → neg_ℤ class_price ≤ℤ u) →
    (list : List ℕ) (worth : ℕ) → worth_of list ≡ Some worth → price_of prices list ≤ℤ (pos (1000 * worth) +ℤ class_price)

-- a list as a column of a class, where it has a worth
abbrev pub worth_column : Problem → ℕ → List ℕ → Option Column
worth_column p class list = option_map (λ worth. record { class = class; worth = worth; items = list }) (p.worth class list)
