-- Promise: a day that is planned by fixed rounds has one text, or one cause.
use Rattle.std.specs.Prelude.{◌≡◌, ◌⊎◌, ℕ, false, List}
use Rattle.vdv451_text.specs.declared.table.Table.{Table}
use Rattle.day_method.specs.Method.{DayEnding}
use Rattle.day_model.specs.Facts.{DayFacts}
use Rattle.plan_command.specs.declared.fault.PlanFault.{PlanFault}
use Rattle.plan_command.specs.declared.fault.PlanFault.TheVariants as faults
use Rattle.plan_command.specs.Planning.{Asked, IsPlanCauseOver, PlanEndsAs}
use Rattle.plan_command.specs.PlanText.{IsPlanTextOver}
use Rattle.plan_command.specs.ShortText.{IsShortTextOver}

-- planning of a day ends in one way alone
abbrev pub PlanEndsOnce : DayFacts → Type 0
PlanEndsOnce facts =
    (asked : Asked) → asked.numbers.climb ≡ false → (one other : DayEnding) → PlanEndsAs facts asked one →
    PlanEndsAs facts asked other → one ≡ other

-- two texts of a day are the same
abbrev pub HasOneText : DayFacts → Type 0
HasOneText facts = (asked : Asked) → asked.numbers.climb ≡ false → (table : Table) (one other : List ℕ) →
    IsPlanTextOver facts asked table one → IsPlanTextOver facts asked table other → one ≡ other

-- two refusals of a day with a cause are the same, but for running out of memory
abbrev pub HasOneCause : DayFacts → Type 0
HasOneCause facts =
    (asked : Asked) → asked.numbers.climb ≡ false → (one other : PlanFault) → IsPlanCauseOver facts asked one →
    IsPlanCauseOver facts asked other →
    (one ≡ other) ⊎ ((one ≡ faults.Memory) ⊎ (other ≡ faults.Memory))

-- a day that has a text has no cause for a refusal, but for running out of memory
abbrev pub HasTextOrCause : DayFacts → Type 0
HasTextOrCause facts =
    (asked : Asked) → asked.numbers.climb ≡ false → (table : Table) (bytes : List ℕ) (fault : PlanFault) →
    IsPlanTextOver facts asked table bytes → IsPlanCauseOver facts asked fault → fault ≡ faults.Memory

-- the same of the short text
abbrev pub HasOneShortText : DayFacts → Type 0
HasOneShortText facts = (asked : Asked) → asked.numbers.climb ≡ false → (one other : List ℕ) → IsShortTextOver facts asked one →
    IsShortTextOver facts asked other → one ≡ other

abbrev pub HasShortTextOrCause : DayFacts → Type 0
HasShortTextOrCause facts =
    (asked : Asked) → asked.numbers.climb ≡ false → (bytes : List ℕ) (fault : PlanFault) → IsShortTextOver facts asked bytes →
    IsPlanCauseOver facts asked fault → fault ≡ faults.Memory
