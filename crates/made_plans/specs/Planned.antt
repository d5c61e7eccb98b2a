-- Promise: days that are never refused for want of places.
use Rattle.std.specs.Prelude.{◌≡◌}
use Rattle.day_model.specs.Facts.{DayFacts}
use Rattle.plan_command.specs.declared.fault.PlanFault.{PlanFault}
use Rattle.plan_command.specs.declared.fault.PlanFault.TheVariants as faults
use Rattle.plan_command.specs.Planning.{Asked, IsPlanCauseOver}

-- planning of the day is refused for running out of memory alone, by either method and with or without the flow
abbrev pub IsRefusedForMemory : DayFacts → Type 0
IsRefusedForMemory facts = (asked : Asked) (fault : PlanFault) → IsPlanCauseOver facts asked fault → fault ≡ faults.Memory
