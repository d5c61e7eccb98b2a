-- Promise: why climbing gives no plan.
use Rattle.cover_core.specs.Cover.{Problem}
use Rattle.plan_round.specs.Laws.{HasRoomForEach, IsStuck}
use Rattle.climb_rounds.specs.declared.climbed.ClimbFault.{ClimbFault}
use Rattle.climb_rounds.specs.declared.climbed.ClimbFault.TheVariants as faults

-- an item has no place beside these columns, and not each item has room of its own; running out of memory needs no cause
abbrev pub IsClimbCause : Problem → ClimbFault → Type 0
IsClimbCause p (faults.NotPlaced item partial) = IsStuck p item partial.columns × (¬ HasRoomForEach p)
IsClimbCause p faults.Memory = Unit {0}
