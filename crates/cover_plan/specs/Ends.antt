-- Promise: what planning gives, and why it gives no plan.
use Rattle.std.specs.Prelude.{◌≡◌, ℕ, ◌≤◌, List, length}
use Rattle.cover_core.specs.declared.Column.{Column}
use Rattle.cover_core.specs.Cover.{Problem}
use Rattle.cover_core.specs.Plans.{IsPlan, IsPaid, bound_of}
use Rattle.dual_bound.specs.declared.kept.Kept.{Kept}
use Rattle.plan_round.specs.Laws.{HasRoomForEach, IsStuck}
use Rattle.worker_price.specs.Work.{ArePricesFor}
use Rattle.cover_plan.specs.declared.fault.PlanFault.{PlanFault}
use Rattle.cover_plan.specs.declared.fault.PlanFault.TheVariants as faults
use Rattle.cover_plan.specs.Endings.{Numbers, HasNoPlan, LeavesItem}

-- there is no plan at all
abbrev pub HasNone : Problem → Type 0
HasNone p = (columns : List Column) → IsPlan p columns → ⊥

-- no plan has fewer columns
abbrev pub IsCountBoundOf : Problem → ℕ → Type 0
IsCountBoundOf p bound = (columns : List Column) → IsPlan p columns → bound ≤ length columns

-- kept prices and class prices of a problem, which are paid, with their bound
pub record IsPaidOffer (p : Problem) (kept : Kept) : Type 0 where
  pub prices : ArePricesFor p kept.prices.items
  pub class_prices : length kept.class_prices ≡ length p.caps
  pub paid : IsPaid p kept.prices.items kept.class_prices
  pub bound : kept.bound ≡ bound_of kept.prices.items kept.class_prices p.caps

-- why the first pass ends planning: its bound is above the sum of all caps, and then there is no plan
abbrev pub IsCountCause : Problem → Problem → Numbers → PlanFault → Type 0
IsCountCause counted costed numbers (faults.NoPlan bound places) = HasNoPlan counted numbers bound places × HasNone costed
IsCountCause counted costed numbers (faults.NotPlaced item partial) = ⊥
IsCountCause counted costed numbers faults.Memory = Unit {0}

-- why there is no plan; running out of memory needs no cause
abbrev pub IsCause : Problem → Problem → Numbers → PlanFault → Type 0
IsCause counted costed numbers (faults.NoPlan bound places) = HasNoPlan counted numbers bound places × HasNone costed
IsCause counted costed numbers (faults.NotPlaced item partial) =
    LeavesItem counted costed numbers item partial.columns × IsStuck costed item partial.columns × (¬ HasRoomForEach costed)
IsCause counted costed numbers faults.Memory = Unit {0}
