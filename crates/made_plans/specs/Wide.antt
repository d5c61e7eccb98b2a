-- Promise: problems in which each item has room of its own.
use Rattle.std.specs.Prelude.{◌≡◌, List}
use Rattle.cover_core.specs.declared.Column.{Column}
use Rattle.cover_core.specs.Cover.{Problem}
use Rattle.cover_core.specs.Plans.{IsPlan}
use Rattle.plan_round.specs.Laws.{HasRoomForEach}
use Rattle.cover_plan.specs.declared.fault.PlanFault.{PlanFault}
use Rattle.cover_plan.specs.declared.fault.PlanFault.TheVariants as faults
use Rattle.cover_plan.specs.Endings.{Numbers}
use Rattle.cover_plan.specs.Ends.{IsCause}

-- where each item has room of its own there is a plan
abbrev pub HasPlan : Problem → Type 0
HasPlan p = HasRoomForEach p → (columns : List Column) × IsPlan p columns

-- where each item has room of its own, planning is refused for running out of memory alone
abbrev pub IsNotRefused : Problem → Problem → Type 0
IsNotRefused counted costed =
    HasRoomForEach costed → (numbers : Numbers) (fault : PlanFault) → IsCause counted costed numbers fault → fault ≡ faults.Memory
