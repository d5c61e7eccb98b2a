-- Promise: the marks of one class as the labels of a search.
use Rattle.std.specs.Prelude.{◌≡◌, ℕ, ℤ, ◌<◌, Bool, true, List, Some, refl}
use Rattle.std.proofs.Common.{◌∙◌, subst, sym}
use Rattle.std.specs.declared.cmp.Ordering.{Ordering}
use Rattle.std.specs.declared.cmp.Ordering.TheVariants.{Equal}
use Rattle.plan_core.specs.declared.Price.{Price}
use Rattle.cover_core.specs.declared.Column.{Column}
use Rattle.cover_core.specs.Cover.{Problem}
use Rattle.cover_core.specs.FirstLeast.{InGroup}
use Rattle.cover_core.specs.Best.{best_of}
use Rattle.cover_core.specs.Labels.{IsValued}
use Rattle.label_search.specs.Laws.{GoodAs, IsStepwise, IsSafe, HidesNone}
use Rattle.mark_cover.specs.Marking.{Marking, of_class, IsPlaced}
use Rattle.mark_cover.specs.Minimal.{AreSafe}
use Rattle.unpaid_list.specs.Unpaid.{IsLeastOfClass}

-- In each class a mark that is at least as good has no greater value; a smaller value stays smaller, and closes smaller.
abbrev pub AreValued : {L : Type 0} → Marking L → (L → ℤ) → Type 0
AreValued m value_at = (class : ℕ) → IsValued (of_class m class) (GoodAs m.good) value_at m.close

-- a sound mark of the class, whose last item is there
pub record IsOfClass {L : Type 0} (m : Marking L) (sound : L → Type 0) (class : ℕ) (a : L) : Type 0 where
  pub is_sound : sound a
  pub class_is : m.class_of a ≡ class
  pub last_there : m.last a < m.items

-- every label may close within every limit: there is no completion bound
abbrev pub may_close_always : {L : Type 0} → ℤ → L → Bool
may_close_always limit a = true

pub class-stepwise : {L : Type 0} (m : Marking L) (class : ℕ) → IsPlaced m → IsStepwise (of_class m class) m.items m.last
class-stepwise m class placed = record {
  starts = λ item a e. let x = placed.starts class item a e in (x.0, x.2);
  steps = λ a b item e. let x = placed.steps a b item e in (x.0, x.1, x.3);
}

pub class-safe : {L : Type 0} (m : Marking L) (sound : L → Type 0) (class : ℕ) → IsPlaced m → AreSafe m sound →
    IsSafe (of_class m class) (IsOfClass m sound class)
class-safe m sound class placed safe = record {
  starts = λ item a e.
      let x = placed.starts class item a e in
      let P : ℕ → Type 0 = λ i. i < m.items in
      record { is_sound = safe.starts class item a e; class_is = x.1; last_there = subst P (sym x.2) x.0 };
  steps = λ a b item fits e.
      let x = placed.steps a b item e in
      let P : ℕ → Type 0 = λ i. i < m.items in
      record { is_sound = safe.steps a b item fits.is_sound e; class_is = x.2 ∙ fits.class_is; last_there = subst P (sym x.3) x.1 };
}

pub class-hides : {L : Type 0} (m : Marking L) (sound : L → Type 0) (class : ℕ) →
    HidesNone (of_class m class) m.good m.close (IsOfClass m sound class) may_close_always
class-hides m sound class = record {
  closes = λ limit a v fits e low. refl;
  steps = λ limit a b item fits e passes. refl;
  ordered = λ limit a b h passes. refl;
}

-- The first least of a class is the best column of the class and the group of its first item.
abbrev pub LeastIsBest : Problem → Type 0
LeastIsBest p =
    (prices : List Price) (class group : ℕ) (column : Column) → IsLeastOfClass p prices class column → InGroup group column.items →
    best_of p prices class group ≡ Some column

-- an order between two marks of which it makes no difference only where they are the same
abbrev pub TellsMarksApart : {L : Type 0} → (L → L → Ordering) → Type 0
TellsMarksApart {L} order = (a b : L) → order a b ≡ Equal → a ≡ b
