-- Planning of a roomy day is refused for running out of memory alone.
use Rattle.std.proofs.Common.{ℕ, ◌≤◌, false, List, refl}
use Rattle.cover_core.specs.declared.Column.{Column}
use Rattle.cover_core.specs.Cover.{Problem}
use Rattle.cover_core.specs.Plans.{HasListedColumns}
use Rattle.plan_round.specs.Laws.{HasRoomForEach}
use Rattle.cover_plan.specs.Ends.{HasNone}
use Rattle.day_method.specs.declared.side.Side.{Side}
use Rattle.day_method.specs.declared.side.Side.TheVariants.{Vehicles, Drivers}
use Rattle.day_model.specs.Facts.{DayFacts}
use Rattle.depot_network.specs.Listed.{blocks_listed}
use Rattle.depot_network.specs.Network.{blocks_of}
use Rattle.block_cut.specs.Cuts.{pieces_of_plan}
use Rattle.duty_network.specs.Listed.{duties_listed}
use Rattle.plan_command.specs.declared.fault.ItemName.{ItemName}
use Rattle.plan_command.specs.declared.fault.PlanFault.TheVariants as faults
use Rattle.plan_command.specs.Planning.{Asked, HasNoneOf, IsLeftItem, duties_over}
use Rattle.made_plans.specs.MadeDays.{IsMadeDay}
use Rattle.made_plans.specs.Planned.{IsRefusedForMemory}
use Rattle.made_plans.specs.Rooms.{HasRoomForPieces, HasRoomForTrips}
use Rattle.made_plans.specs.Roomy.{IsRoomy}
use Rattle.made_plans.proofs.Alone.{room_for_trips}
use Rattle.made_plans.proofs.Light.{room_for_pieces}
use Rattle.made_plans.proofs.MadeRoomy.{made_roomy}
use Rattle.made_plans.proofs.Wide.{has_plan}

some_plan : (p : Problem) → HasListedColumns p → HasRoomForEach p → HasNone p → ⊥
some_plan p listed room none = let (columns, plan) = has_plan p listed room in none columns plan

-- each side has a plan
both_sides : (facts : DayFacts) (asked : Asked) (side : Side) → HasRoomForTrips facts → HasRoomForPieces facts →
    HasNoneOf facts asked side → ⊥
both_sides facts asked Vehicles trips pieces none =
    some_plan (blocks_of facts false) (blocks_listed (record { day = facts; counts = false })) trips none
both_sides facts asked Drivers trips pieces (blocks, are, none) =
    some_plan (duties_over facts blocks.columns false)
    (duties_listed (record { pieces = pieces_of_plan facts blocks.columns; params = facts.params; counts = false }))
    (pieces blocks.columns are.plan) none

-- nothing is left of a side
none_left : (facts : DayFacts) (asked : Asked) (side : Side) (item : ℕ) (name : ItemName) (partial : List Column) →
    HasRoomForTrips facts → HasRoomForPieces facts →
    IsLeftItem facts asked side item name partial → ⊥
none_left facts asked Vehicles item name partial trips pieces left = left.0.no_room trips
none_left facts asked Drivers item name partial trips pieces left = left.is_left.no_room (pieces left.blocks.columns left.blocks_are.plan)

-- The causes are taken in turn: that a side has no plan is refuted by `has_plan`, vehicles by the room for trips, and drivers by the
-- room for the pieces of whatever blocks were found; that an item is left says itself that not each had room. There remains running
-- out of memory.
refused : (facts : DayFacts) → HasRoomForTrips facts → HasRoomForPieces facts → IsRefusedForMemory facts
refused facts trips pieces asked (faults.NoPlan side bound places) cause = absurd (both_sides facts asked side trips pieces cause.1)
refused facts trips pieces asked (faults.NotPlaced side item name partial) cause =
    absurd (none_left facts asked side item name partial.columns trips pieces cause.1)
refused facts trips pieces asked faults.Memory cause = refl

pub roomy_refused : (facts : DayFacts) → IsRoomy facts → IsRefusedForMemory facts
roomy_refused facts is =
    refused facts (room_for_trips facts is.pool is.group is.way is.roomy) (room_for_pieces facts is.pool is.group is.way is.roomy)

pub made_refused : (seed trips day : ℕ) (facts : DayFacts) → trips ≤ 3000 → IsMadeDay seed trips day facts → IsRefusedForMemory facts
made_refused seed trips day facts few made = roomy_refused facts (made_roomy seed trips day facts few made)
