-- Promise: lists with a value below minus the price of their class.
use Rattle.std.specs.Prelude.{◌≡◌, ℕ, ℤ, neg_ℤ, ◌<◌, ◌<ℤ◌, List, Some}
use Rattle.plan_core.specs.declared.Price.{Price}
use Rattle.cover_core.specs.declared.Column.{Column}
use Rattle.cover_core.specs.declared.marks.CoverFault.{CoverFault}
use Rattle.cover_core.specs.declared.marks.CoverFault.TheVariants.{Unpaid, Memory}
use Rattle.cover_core.specs.Cover.{Problem}
use Rattle.cover_core.specs.Plans.{IsColumn, number_at, value_of}
use Rattle.cover_core.specs.FirstLeast.{IsAtMostAll, IsNotAfter, value}

-- Of all lists of the class with a worth the column has the least value, and none of that value comes before it.
pub record IsLeastOfClass (p : Problem) (prices : List Price) (class : ℕ) (column : Column) : Type 0 where
  pub listed : IsColumn p column
  pub of_class : column.class ≡ class
  pub least : IsAtMostAll p prices class (value prices column)
  pub first : (list : List ℕ) (worth : ℕ) → p.worth class list ≡ Some worth → value_of prices worth list ≡ value prices column →
      IsNotAfter column.items list

-- no list of the class with a worth has a value below minus the price of the class
abbrev pub IsClassPaid : Problem → List Price → List ℤ → ℕ → Type 0
IsClassPaid p prices class_prices class = IsAtMostAll p prices class (neg_ℤ (number_at class_prices class))

-- so it is with the classes below a number
abbrev pub AreClassesPaid : Problem → List Price → List ℤ → ℕ → Type 0
AreClassesPaid p prices class_prices count = (class : ℕ) → class < count → IsClassPaid p prices class_prices class

-- The first least of its class, with a value below minus the price of the class; no earlier class has such a list.
pub record IsFirstUnpaid (p : Problem) (prices : List Price) (class_prices : List ℤ) (column : Column) : Type 0 where
  pub least : IsLeastOfClass p prices column.class column
  pub unpaid : value prices column <ℤ neg_ℤ (number_at class_prices column.class)
  pub earlier : AreClassesPaid p prices class_prices column.class

-- why there is no cover: a list is unpaid, or memory ran out
abbrev pub IsUnpaidCause : Problem → List Price → List ℤ → CoverFault → Type 0
IsUnpaidCause p prices class_prices (Unpaid column) = IsFirstUnpaid p prices class_prices column
IsUnpaidCause p prices class_prices Memory = Unit {0}
