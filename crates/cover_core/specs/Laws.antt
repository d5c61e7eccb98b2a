-- Promise: what holds of every problem: the statements of the public laws.
use Rattle.std.specs.Prelude.{◌≡◌, ℕ, ℤ, pos, ◌+ℤ◌, ◌≤ℤ◌, ◌<ℤ◌, ◌⊎◌, ◌<◌, ◌≤◌, List, [], ◌++◌, length, sum, Option, Some, None}
use Rattle.std.specs.declared.cmp.Ordering.TheVariants.{Equal}
use Rattle.plan_core.specs.declared.Price.{Price}
use Rattle.cover_core.specs.declared.Column.{Column}
use Rattle.cover_core.specs.Cover.{Problem, Rises, AllBelow}
use Rattle.cover_core.specs.Plans.{IsPlan, IsPaid, number_at, bound_of}
use Rattle.cover_core.specs.FirstLeast.{backward_cmp, IsNotAfter, InGroup, IsFirstLeast, AllAbove, IsAtMostAll, value}
use Rattle.cover_core.specs.Best.{best_of, within}

-- where each class price is at least 0 and at least minus the least value of its class, prices are paid
abbrev pub CoveringIsPaid : Problem → Type 0
CoveringIsPaid p =
    (prices : List Price) (class_prices least : List ℤ) →
    ((class : ℕ) → class < length p.caps → pos 0 ≤ℤ number_at class_prices class) →
    ((class : ℕ) → class < length p.caps → pos 0 ≤ℤ (number_at least class +ℤ number_at class_prices class)) →
    ((class : ℕ) → class < length p.caps → IsAtMostAll p prices class (number_at least class)) →
    IsPaid p prices class_prices

-- the same items and caps, and each list that has a worth is worth 1
pub record IsCountOf (p counted : Problem) : Type 0 where
  pub items : counted.items ≡ p.items
  pub caps : counted.caps ≡ p.caps
  pub one : (class : ℕ) (list : List ℕ) (worth : ℕ) → p.worth class list ≡ Some worth → counted.worth class list ≡ Some 1

-- a plan has at most as many columns as items
abbrev pub HasFewColumns : Problem → Type 0
HasFewColumns p = (columns : List Column) → IsPlan p columns → length columns ≤ p.items

-- a plan has at most as many columns as the caps allow in all
abbrev pub KeepsCaps : Problem → Type 0
KeepsCaps p = (columns : List Column) → IsPlan p columns → length columns ≤ sum p.caps

-- a plan has at least as many columns as the bound of prices that are paid with each worth 1
abbrev pub CountDuality : Problem → Type 0
CountDuality p =
    (counted : Problem) (prices : List Price) (class_prices : List ℤ) → IsCountOf p counted →
    length prices ≡ p.items → length class_prices ≡ length p.caps → IsPaid counted prices class_prices →
    (columns : List Column) → IsPlan p columns → bound_of prices class_prices p.caps ≤ length columns

-- where that bound is above the sum of the caps there is no plan
abbrev pub NoPlanAbove : Problem → Type 0
NoPlanAbove p =
    (counted : Problem) (prices : List Price) (class_prices : List ℤ) → IsCountOf p counted →
    length prices ≡ p.items → length class_prices ≡ length p.caps → IsPaid counted prices class_prices →
    sum p.caps < bound_of prices class_prices p.caps →
    (columns : List Column) → IsPlan p columns → ⊥

-- the best column of a class and group is its first least, and the only one
pub record IsBest (p : Problem) (prices : List Price) (class group : ℕ) (best : Option Column) : Type 0 where
  pub is_first_least : (column : Column) → best ≡ Some column → IsFirstLeast p prices class group column
  pub only : (column : Column) → IsFirstLeast p prices class group column → best ≡ Some column
  pub no_list : best ≡ None → (list : List ℕ) (worth : ℕ) → p.worth class list ≡ Some worth → InGroup group list → ⊥
  pub none : ((list : List ℕ) (worth : ℕ) → p.worth class list ≡ Some worth → InGroup group list → ⊥) → best ≡ None

-- what is left of it under a limit: the first least of a value at most the limit, or nothing where all values are above
pub record IsLimited (p : Problem) (prices : List Price) (class group : ℕ) (limit : ℤ) (best : Option Column) : Type 0 where
  pub found : (column : Column) → best ≡ Some column → IsFirstLeast p prices class group column × (value prices column ≤ℤ limit)
  pub onto : (column : Column) → IsFirstLeast p prices class group column → value prices column ≤ℤ limit → best ≡ Some column
  pub all_above : best ≡ None → AllAbove p prices class group limit
  pub none : AllAbove p prices class group limit → best ≡ None

-- the best column is the first least of its class and group
abbrev pub BestIsFirstLeast : Problem → Type 0
BestIsFirstLeast p =
    (prices : List Price) (class group : ℕ) → class < length p.caps → IsBest p prices class group (best_of p prices class group)

-- under a limit it is there exactly where its value is not above the limit
abbrev pub WithinIsLimited : Problem → Type 0
WithinIsLimited p =
    (prices : List Price) (class group : ℕ) (limit : ℤ) → class < length p.caps →
    IsLimited p prices class group limit (within limit prices (best_of p prices class group))

-- a first least has the class asked for, and its list is not empty, rises, and has items of the problem alone
pub record IsFitting (p : Problem) (class : ℕ) (column : Column) : Type 0 where
  pub of_class : column.class ≡ class
  pub rises : Rises column.items
  pub items : AllBelow p.items column.items
  pub some : column.items ≡ [] → ⊥

-- a first least is a fitting column
abbrev pub BestIsFitting : Problem → Type 0
BestIsFitting p =
    (prices : List Price) (class group : ℕ) (column : Column) → IsFirstLeast p prices class group column → IsFitting p class column

-- a list of a value is at least as good as another and not later: its value is smaller, or equal and its list not after the other
abbrev pub IsEarlier : ℤ → List ℕ → ℤ → List ℕ → Type 0
IsEarlier u xs v ys = (u <ℤ v) ⊎ ((u ≡ v) × IsNotAfter xs ys)

-- and so it stays over a common continuation that adds the same to both values
abbrev pub KeepsEarlier : Type 0
KeepsEarlier = (u v more : ℤ) (xs ys tail : List ℕ) → IsEarlier u xs v ys → IsEarlier (u +ℤ more) (xs ++ tail) (v +ℤ more) (ys ++ tail)

-- a common tail keeps the order
abbrev pub KeepsOrder : Type 0
KeepsOrder = (xs ys tail : List ℕ) → backward_cmp (xs ++ tail) (ys ++ tail) ≡ backward_cmp xs ys

-- two lists between which the order makes no difference are the same
abbrev pub TellsApart : Type 0
TellsApart = (xs ys : List ℕ) → backward_cmp xs ys ≡ Equal → xs ≡ ys
