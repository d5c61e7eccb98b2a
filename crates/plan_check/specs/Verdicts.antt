-- Promise: whether lists are a plan, and if not, why: the first cause by its kind and numbers.
use Rattle.std.specs.Prelude.{◌≡◌, ◌≢◌, ℕ, ◌<◌, ◌≤◌, List, [], ◌∷◌, length, Some, slice_get, slice_index}
use Rattle.plan_core.specs.Limits.{most_items}
use Rattle.cover_core.specs.declared.Column.{Column}
use Rattle.cover_core.specs.Cover.{Problem}
use Rattle.cover_core.specs.Plans.{IsPlan, times, all_items, all_classes}
use Rattle.cover_core.specs.FirstLeast.{AreCheap}
use Rattle.plan_check.specs.declared.verdict.PlanVerdict.{PlanVerdict}
use Rattle.plan_check.specs.declared.verdict.PlanVerdict.TheVariants.{Lawful, Times, Unlawful, Over}

-- the same classes and lists in the same order, whatever their worths
abbrev pub HaveSameLists : List Column → List Column → Type 0
HaveSameLists [] [] = Unit {0}
HaveSameLists (a ∷ as') (b ∷ bs) = (a.class ≡ b.class) × (a.items ≡ b.items) × HaveSameLists as' bs
HaveSameLists _ _ = ⊥

-- each of so many items stands in exactly one list, once
abbrev pub EachOnce : ℕ → List Column → Type 0
EachOnce items lists = (item : ℕ) → item < items → times item (all_items lists) ≡ 1

-- each item of a problem does
abbrev pub StandOnce : Problem → List Column → Type 0
StandOnce p lists = EachOnce p.items lists

-- a list is a column of its class
abbrev pub HasWorth : Problem → Column → Type 0
HasWorth p list = (list.class < length p.caps) × (worth : ℕ) × (p.worth list.class list.items ≡ Some worth)

-- each list at a place below a bound is a column
abbrev pub HaveWorths : Problem → List Column → ℕ → Type 0
HaveWorths p lists bound = (place : ℕ) (list : Column) → place < bound → slice_get lists place ≡ Some list → HasWorth p list

-- the first of so many items by number that does not stand in exactly one list, once
pub record IsFirstTimes (items : ℕ) (lists : List Column) (item count : ℕ) : Type 0 where
  pub there : item < items
  pub count_is : times item (all_items lists) ≡ count
  pub other : count ≢ 1
  pub first : (earlier : ℕ) → earlier < item → times earlier (all_items lists) ≡ 1

-- the first list by place that is no column of its class
pub record IsFirstUnlawful (p : Problem) (lists : List Column) (place : ℕ) : Type 0 where
  pub list : Column
  pub at : slice_get lists place ≡ Some list
  pub none : HasWorth p list → ⊥
  pub first : HaveWorths p lists place

-- the first class by number that has more lists than its cap
pub record IsFirstOver (p : Problem) (lists : List Column) (class used : ℕ) : Type 0 where
  pub there : class < length p.caps
  pub used_is : times class (all_classes lists) ≡ used
  pub over : slice_index p.caps class < used
  pub first : (earlier : ℕ) → earlier < class → times earlier (all_classes lists) ≤ slice_index p.caps earlier

-- Lists are a plan once they have their worths; or an item does not stand once; or each does, and a list has no worth; or all have one,
-- and a class has too many.
abbrev pub IsVerdict : Problem → List Column → PlanVerdict → Type 0
IsVerdict p lists (Lawful plan) = HaveSameLists lists plan.columns × IsPlan p plan.columns
IsVerdict p lists (Times item count) = IsFirstTimes p.items lists item count
IsVerdict p lists (Unlawful place) = StandOnce p lists × IsFirstUnlawful p lists place
IsVerdict p lists (Over class used) = StandOnce p lists × HaveWorths p lists (length lists) × IsFirstOver p lists class used

-- a plan that was found has at most 3,000 lists
abbrev pub HasFewLists : PlanVerdict → Type 0
HasFewLists (Lawful plan) = length plan.columns ≤ most_items
HasFewLists (Times item count) = Unit {0}
HasFewLists (Unlawful place) = Unit {0}
HasFewLists (Over class used) = Unit {0}

-- a plan that was found has no list that is worth more than 4,000,000,000
abbrev pub HasCheapLists : PlanVerdict → Type 0
HasCheapLists (Lawful plan) = AreCheap plan.columns
HasCheapLists (Times item count) = Unit {0}
HasCheapLists (Unlawful place) = Unit {0}
HasCheapLists (Over class used) = Unit {0}

-- the lists of a plan have one verdict: that they are this plan
abbrev pub PlansAreFound : Problem → Type 0
PlansAreFound p =
    (lists plan : List Column) (verdict : PlanVerdict) → HaveSameLists lists plan → IsPlan p plan → IsVerdict p lists verdict →
    verdict ≡ Lawful (record { columns = plan })
