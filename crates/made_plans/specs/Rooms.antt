-- Promise: what a roomy day has.
use Rattle.std.specs.Prelude.{false, List}
use Rattle.cover_core.specs.declared.Column.{Column}
use Rattle.cover_core.specs.Plans.{IsPlan}
use Rattle.plan_round.specs.Laws.{HasRoomForEach}
use Rattle.day_model.specs.Facts.{DayFacts}
use Rattle.depot_network.specs.Network.{blocks_of}
use Rattle.block_cut.specs.Cuts.{pieces_of_plan}
use Rattle.duty_network.specs.Duties.{duties_of}

-- each trip has room of its own
abbrev pub HasRoomForTrips : DayFacts → Type 0
HasRoomForTrips day = HasRoomForEach (blocks_of day false)

-- whatever the blocks of a plan are, each of their pieces has room of its own
abbrev pub HasRoomForPieces : DayFacts → Type 0
HasRoomForPieces day =
    (columns : List Column) → IsPlan (blocks_of day false) columns →
    HasRoomForEach (duties_of day.params (pieces_of_plan day columns) false)
