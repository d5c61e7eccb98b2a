-- Promise: the order of lists, and the first least of the lists of a class.
use Rattle.std.specs.Prelude.{◌≡◌, ℕ, false, ℤ, ◌≤ℤ◌, ◌<ℤ◌, ◌/◌, ◌<◌, ◌≤◌, List, [], ◌∷◌, length, reverse, Some, neg_ℤ, pos, negsuc}
use Rattle.std.specs.declared.cmp.Ordering.{Ordering}
use Rattle.std.specs.Ordering.{nat_cmp, is_gt}
use Rattle.std.specs.Cmp.Lexicographic.{slice_cmp}
use Rattle.plan_core.specs.Limits.{most_worth}
use Rattle.plan_core.specs.declared.Price.{Price}
use Rattle.cover_core.specs.declared.Column.{Column}
use Rattle.cover_core.specs.Cover.{Problem}
use Rattle.cover_core.specs.Plans.{IsColumn, value_of, number_at, IsPaid}

-- two lists are compared from their last items backwards: at the first difference the smaller item comes first,
-- and a list that has ended comes first
abbrev pub backward_cmp : List ℕ → List ℕ → Ordering
backward_cmp xs ys = slice_cmp nat_cmp (reverse xs) (reverse ys)

-- a list is not after another
abbrev pub IsNotAfter : List ℕ → List ℕ → Type 0
IsNotAfter xs ys = is_gt (backward_cmp xs ys) ≡ false

-- group g has the lists whose first items are 16 g to 16 g + 15
abbrev pub InGroup : ℕ → List ℕ → Type 0
InGroup group [] = ⊥
InGroup group (x ∷ xs) = x / 16 ≡ group

-- the value of a column
abbrev pub value : List Price → Column → ℤ
value prices column = value_of prices column.worth column.items

-- of all lists of the class and group with a worth the column has the least value,
-- and none of that value comes before it
pub record IsFirstLeast (p : Problem) (prices : List Price) (class group : ℕ) (column : Column) : Type 0 where
  pub listed : IsColumn p column
  pub of_class : column.class ≡ class
  pub of_group : InGroup group column.items
  pub least : (list : List ℕ) (worth : ℕ) → p.worth class list ≡ Some worth → InGroup group list →
      value prices column ≤ℤ value_of prices worth list
  pub first : (list : List ℕ) (worth : ℕ) → p.worth class list ≡ Some worth → InGroup group list →
      value_of prices worth list ≡ value prices column → IsNotAfter column.items list

-- each list of the class and group with a worth has a value above the limit
abbrev pub AllAbove : Problem → List Price → ℕ → ℕ → ℤ → Type 0
AllAbove p prices class group limit =
    (list : List ℕ) (worth : ℕ) → p.worth class list ≡ Some worth → InGroup group list → limit <ℤ value_of prices worth list

-- no list of the class with a worth has a value below this one
abbrev pub IsAtMostAll : Problem → List Price → ℕ → ℤ → Type 0
IsAtMostAll p prices class least =
    (list : List ℕ) (worth : ℕ) → p.worth class list ≡ Some worth → least ≤ℤ value_of prices worth list

-- what a class pays for each of its places: minus its least value, and at least 0
abbrev pub class_price_of : ℤ → ℤ
class_price_of (pos n) = pos 0
class_price_of (negsuc n) = neg_ℤ (negsuc n)

-- the class prices of least values
abbrev pub class_prices_of : List ℤ → List ℤ
class_prices_of [] = []
class_prices_of (z ∷ zs) = class_price_of z ∷ class_prices_of zs

-- least values of the classes, made into class prices, are paid
abbrev pub LeastIsPaid : Problem → Type 0
LeastIsPaid p =
    (prices : List Price) (least : List ℤ) → length least ≡ length p.caps →
    ((class : ℕ) → class < length p.caps → IsAtMostAll p prices class (number_at least class)) →
    IsPaid p prices (class_prices_of least)

-- each price is from -n to n
abbrev pub AllWithin : ℕ → List Price → Type 0
AllWithin n [] = Unit {0}
AllWithin n (x ∷ xs) = (neg_ℤ (pos n) ≤ℤ x.0) × (x.0 ≤ℤ pos n) × AllWithin n xs

-- no worth is above 4,000,000,000
abbrev pub AreCheap : List Column → Type 0
AreCheap [] = Unit {0}
AreCheap (c ∷ cs) = (c.worth ≤ most_worth) × AreCheap cs
