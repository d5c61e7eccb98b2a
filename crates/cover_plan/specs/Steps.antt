-- Inner: what holds between the steps of planning.
use Rattle.std.specs.Prelude.{ℕ}
use Rattle.cover_core.specs.declared.Plan.{Plan}
use Rattle.cover_core.specs.Cover.{Problem}
use Rattle.cover_core.specs.Plans.{IsPlan}
use Rattle.dual_bound.specs.declared.kept.Kept.{Kept}
use Rattle.plan_round.specs.Rounding.{whole, left}
use Rattle.plan_round.specs.Faults.{RoundsTo}
use Rattle.plan_round.specs.Laws.{HasRoomForEach, IsStuck}
use Rattle.price_rounds.specs.Rounds.{after_rounds}
use Rattle.cover_plan.specs.declared.fault.PlanFault.{PlanFault}
use Rattle.cover_plan.specs.declared.fault.PlanFault.TheVariants as faults
use Rattle.cover_plan.specs.Endings.{Numbers, IsFirstKept, LeavesBy}

-- rounding of the second pass leaves an item
pub record LeavesOf (costed : Problem) (numbers : Numbers) (item : ℕ) (partial : Plan) : Type 0 where
  pub cost : Kept
  pub kept : IsFirstKept costed numbers cost
  pub rounds : RoundsTo costed cost.prices.items (after_rounds costed numbers.rounds).pool (left item partial.columns)
  pub stuck : IsStuck costed item partial.columns
  pub no_room : ¬ HasRoomForEach costed

-- why the second pass of fixed rounds, rounding and exchange give no plan
abbrev pub IsRoundedCause : Problem → Numbers → PlanFault → Type 0
IsRoundedCause costed numbers (faults.NoPlan bound places) = ⊥
IsRoundedCause costed numbers (faults.NotPlaced item partial) = LeavesOf costed numbers item partial
IsRoundedCause costed numbers faults.Memory = Unit {0}

-- why climbing gives no plan
abbrev pub IsClimbedCause : Problem → PlanFault → Type 0
IsClimbedCause costed (faults.NoPlan bound places) = ⊥
IsClimbedCause costed (faults.NotPlaced item partial) = IsStuck costed item partial.columns × (¬ HasRoomForEach costed)
IsClimbedCause costed faults.Memory = Unit {0}

-- why there is no plan with costs, by either method
abbrev pub IsCostCause : Problem → Numbers → PlanFault → Type 0
IsCostCause costed numbers (faults.NoPlan bound places) = ⊥
IsCostCause costed numbers (faults.NotPlaced item partial) =
    LeavesBy numbers.climb costed numbers item partial.columns × IsStuck costed item partial.columns × (¬ HasRoomForEach costed)
IsCostCause costed numbers faults.Memory = Unit {0}

-- a plan that the pool of the second pass was rounded to
pub record HasPool (costed : Problem) (numbers : Numbers) (cost : Kept) (plan : Plan) : Type 0 where
  pub kept : IsFirstKept costed numbers cost
  pub rounds : RoundsTo costed cost.prices.items (after_rounds costed numbers.rounds).pool (whole plan.columns)
  pub is_plan : IsPlan costed plan.columns
