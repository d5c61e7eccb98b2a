-- Promise: what a plan and paid prices show together.
use Rattle.std.specs.Prelude.{◌≡◌, ℕ, ℤ, ◌≤◌, List, length}
use Rattle.plan_core.specs.declared.Price.{Price}
use Rattle.cover_core.specs.declared.Column.{Column}
use Rattle.cover_core.specs.Cover.{Problem}
use Rattle.cover_core.specs.Plans.{IsPlan, IsPaid, bound_of, cost}
use Rattle.cover_core.specs.Laws.{IsCountOf}

-- a plan, and no plan has fewer columns or a lower cost than these bounds
pub record IsShown (p : Problem) (plan : List Column) (fewest cheapest : ℕ) : Type 0 where
  pub is_plan : IsPlan p plan
  pub number : (other : List Column) → IsPlan p other → fewest ≤ length other
  pub costs : (other : List Column) → IsPlan p other → cheapest ≤ cost other

-- prices of all items and classes, which are paid
pub record ArePaid (p : Problem) (prices : List Price) (class_prices : List ℤ) : Type 0 where
  pub items : length prices ≡ p.items
  pub classes : length class_prices ≡ length p.caps
  pub paid : IsPaid p prices class_prices

-- A plan is shown by prices that are paid with each worth 1 and prices that are paid with the worths, where the bounds are at most
-- those of these prices.
abbrev pub ShowsPlans : Problem → Type 0
ShowsPlans p =
    (counted : Problem) (plan : List Column) (prices prices' : List Price) (class_prices class_prices' : List ℤ) (fewest cheapest : ℕ) →
    IsCountOf p counted → IsPlan p plan → ArePaid counted prices class_prices → ArePaid p prices' class_prices' →
    fewest ≤ bound_of prices class_prices p.caps → cheapest ≤ bound_of prices' class_prices' p.caps → IsShown p plan fewest cheapest
