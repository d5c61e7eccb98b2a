-- Promise: plans, costs, prices and bounds.
use Rattle.std.specs.Prelude.{◌≡◌, ◌==◌, ◌≢◌, ℕ, ℤ, pos, negsuc, ◌+ℤ◌, ◌-ℤ◌, ◌*ℤ◌, ◌≤ℤ◌, ◌+◌, ◌*◌, ◌/◌, ◌<◌, ◌≤◌, cond, suc, zero, List, [], ◌∷◌, ◌++◌, length, Some, slice_index}
use Rattle.plan_core.specs.declared.Price.{Price}
use Rattle.cover_core.specs.declared.Column.{Column}
use Rattle.cover_core.specs.Cover.{Problem, Rises, AllBelow}

-- a list with a worth is not empty and rises, and its items are there
abbrev pub HasListedColumns : Problem → Type 0
HasListedColumns p =
    (class : ℕ) (list : List ℕ) (worth : ℕ) → p.worth class list ≡ Some worth →
    (list ≢ []) × Rises list × AllBelow p.items list

-- the column's class is there, and its worth is that of its list
abbrev pub IsColumn : Problem → Column → Type 0
IsColumn p c = (c.class < length p.caps) × (p.worth c.class c.items ≡ Some c.worth)

-- each is a column of the problem
abbrev pub AreColumns : Problem → List Column → Type 0
AreColumns p [] = Unit {0}
AreColumns p (c ∷ cs) = IsColumn p c × AreColumns p cs

-- how often an item stands in a list
abbrev pub times : ℕ → List ℕ → ℕ
times i [] = 0
times i (x ∷ xs) = cond (i == x) 1 0 + times i xs

-- the items of all columns, one list after another
abbrev pub all_items : List Column → List ℕ
all_items [] = []
all_items (c ∷ cs) = c.items ++ all_items cs

-- the classes of all columns
abbrev pub all_classes : List Column → List ℕ
all_classes [] = []
all_classes (c ∷ cs) = c.class ∷ all_classes cs

-- a plan: each item stands in exactly one column, once, and no class has more columns than its cap
pub record IsPlan (p : Problem) (columns : List Column) : Type 0 where
  pub worths : AreColumns p columns
  pub once : (item : ℕ) → item < p.items → times item (all_items columns) ≡ 1
  pub caps : (class : ℕ) → class < length p.caps → times class (all_classes columns) ≤ slice_index p.caps class

-- the sum of the worths
abbrev pub cost : List Column → ℕ
cost [] = 0
cost (c ∷ cs) = c.worth + cost cs

-- the price of an item
abbrev pub price_at : List Price → ℕ → ℤ
price_at [] i = pos 0
price_at (x ∷ xs) zero = x.0
price_at (x ∷ xs) (suc i) = price_at xs i

-- the prices of a list of items
abbrev pub price_of : List Price → List ℕ → ℤ
price_of prices [] = pos 0
price_of prices (x ∷ xs) = price_at prices x +ℤ price_of prices xs

-- the sum of all prices
abbrev pub all_prices : List Price → ℤ
all_prices [] = pos 0
all_prices (x ∷ xs) = x.0 +ℤ all_prices xs

-- the number at a place, 0 past the end
abbrev pub number_at : List ℤ → ℕ → ℤ
number_at [] i = pos 0
number_at (x ∷ xs) zero = x
number_at (x ∷ xs) (suc i) = number_at xs i

-- the value of a column (its reduced cost): a thousand times its worth less the prices of its items
abbrev pub value_of : List Price → ℕ → List ℕ → ℤ
value_of prices worth list = pos (1000 * worth) -ℤ price_of prices list

-- prices are paid: class prices are at least 0, and no list with a worth has a value below minus its class price
pub record IsPaid (p : Problem) (prices : List Price) (class_prices : List ℤ) : Type 0 where
  pub charged : (class : ℕ) → class < length p.caps → pos 0 ≤ℤ number_at class_prices class
  pub covered : (class : ℕ) (list : List ℕ) (worth : ℕ) → class < length p.caps → p.worth class list ≡ Some worth →
      price_of prices list ≤ℤ (pos (1000 * worth) +ℤ number_at class_prices class)

-- each class's cap times its price
abbrev pub rent : List ℕ → List ℤ → ℤ
rent [] zs = pos 0
rent (cap ∷ caps) [] = pos 0
rent (cap ∷ caps) (z ∷ zs) = (pos cap *ℤ z) +ℤ rent caps zs

-- a thousandth, rounded up, and at least 0
abbrev pub thousandth : ℤ → ℕ
thousandth (pos n) = (n + 999) / 1000
thousandth (negsuc n) = 0

-- the bound of prices and class prices: the sum of prices less all rents, in cost units
abbrev pub bound_of : List Price → List ℤ → List ℕ → ℕ
bound_of prices class_prices caps = thousandth (all_prices prices -ℤ rent caps class_prices)

-- no plan costs less than the bound of paid prices
abbrev pub WeakDuality : Problem → Type 0
WeakDuality p =
    (prices : List Price) (class_prices : List ℤ) →
    length prices ≡ p.items → length class_prices ≡ length p.caps → IsPaid p prices class_prices →
    (columns : List Column) → IsPlan p columns → bound_of prices class_prices p.caps ≤ cost columns
