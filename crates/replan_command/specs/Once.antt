-- Promise: what is left of a day and is planned by fixed rounds has one text, or one cause for a refusal.
use Rattle.std.specs.Prelude.{◌≡◌, ◌⊎◌, ℕ, false, List}
use Rattle.vdv451_text.specs.declared.table.Table.{Table}
use Rattle.cover_plan.specs.Endings.{Numbers}
use Rattle.day_model.specs.Facts.{DayFacts}
use Rattle.cert_check.specs.declared.reason.Reason.{Reason}
use Rattle.plan_command.specs.declared.fault.PlanFault.TheVariants as plans
use Rattle.replan_command.specs.declared.fault.ReplanFault.{ReplanFault}
use Rattle.replan_command.specs.declared.fault.ReplanFault.TheVariants as faults
use Rattle.replan_command.specs.ReplanText.{IsReplanCauseOver, IsReplanTextOver}

-- two texts of a day, an earlier plan and a moment are the same
abbrev pub HasOneText : DayFacts → Type 0
HasOneText day =
    (old : List Table) (moment : ℕ) (numbers : Numbers) → numbers.climb ≡ false → (table : Table) (one other : List ℕ) →
    IsReplanTextOver day old moment numbers table one → IsReplanTextOver day old moment numbers table other → one ≡ other

-- two refusals with a cause are the same, but for running out of memory
abbrev pub HasOneCause : DayFacts → Type 0
HasOneCause day =
    (old : List Table) (moment : ℕ) (numbers : Numbers) → numbers.climb ≡ false → (one other : ReplanFault) →
    IsReplanCauseOver day old moment numbers one → IsReplanCauseOver day old moment numbers other →
    (one ≡ other) ⊎ ((one ≡ faults.Plan plans.Memory) ⊎ (other ≡ faults.Plan plans.Memory))

-- where there is a text there is no cause for a refusal, but for running out of memory
abbrev pub HasTextOrCause : DayFacts → Type 0
HasTextOrCause day =
    (old : List Table) (moment : ℕ) (numbers : Numbers) → numbers.climb ≡ false → (table : Table) (bytes : List ℕ) (fault : ReplanFault) →
    IsReplanTextOver day old moment numbers table bytes → IsReplanCauseOver day old moment numbers fault → fault ≡ faults.Plan plans.Memory

-- An earlier plan that is refused has no text and no other cause, by whichever method the rest is planned.
pub record IsRefusedAlone (day : DayFacts) (old : List Table) (moment : ℕ) (numbers : Numbers) (reason : Reason) : Type 0 where
  pub no_text : (table : Table) (bytes : List ℕ) → IsReplanTextOver day old moment numbers table bytes → ⊥
  pub no_other : (fault : ReplanFault) → IsReplanCauseOver day old moment numbers fault →
      (fault ≡ faults.OldPlan reason) ⊎ (fault ≡ faults.Plan plans.Memory)

abbrev pub RefusedAlone : DayFacts → Type 0
RefusedAlone day =
    (old : List Table) (moment : ℕ) (numbers : Numbers) (reason : Reason) →
    IsReplanCauseOver day old moment numbers (faults.OldPlan reason) →
    IsRefusedAlone day old moment numbers reason
