-- Inner: what holds between the steps of planning a day.
use Rattle.std.specs.Prelude.{◌≡◌, ℕ, ◌<◌, List, Option, Some, None, IsSomeAnd, slice_get}
use Rattle.plan_core.specs.declared.types.Piece.{Piece as WorkPiece}
use Rattle.cover_plan.specs.declared.fault.PlanFault.{PlanFault as CoverFault}
use Rattle.cover_plan.specs.declared.fault.PlanFault.TheVariants as covers
use Rattle.cover_core.specs.Cover.{Problem}
use Rattle.cover_plan.specs.declared.known.KnownPlan.{KnownPlan}
use Rattle.cover_plan.specs.Endings.{Numbers}
use Rattle.cover_plan.specs.Ends.{IsCause, IsCountCause}
use Rattle.day_method.specs.declared.side.Side.TheVariants.{Vehicles, Drivers}
use Rattle.trip_times.specs.declared.trip.Trip.{Trip as DayTrip}
use Rattle.plan_command.specs.declared.fault.ItemName.TheVariants.{Trip, Piece}
use Rattle.plan_command.specs.declared.fault.PlanFault.{PlanFault}
use Rattle.plan_command.specs.declared.fault.PlanFault.TheVariants as faults

-- an item that is left is one of so many
abbrev pub IsItemBelow : ℕ → CoverFault → Type 0
IsItemBelow count (covers.NoPlan bound places) = Unit {0}
IsItemBelow count (covers.NotPlaced item partial) = item < count
IsItemBelow count covers.Memory = Unit {0}

-- why there is no side, where a plan is known or none is
abbrev pub IsSideCause : Problem → Problem → Numbers → Option KnownPlan → CoverFault → Type 0
IsSideCause counted costed numbers None fault = IsCause counted costed numbers fault
IsSideCause counted costed numbers (Some known) fault = IsCountCause counted costed numbers fault

-- the same refusal, of the blocks of trips
abbrev pub IsBlocksFault : List DayTrip → CoverFault → PlanFault → Type 0
IsBlocksFault trips (covers.NoPlan bound places) fault = fault ≡ faults.NoPlan Vehicles bound places
IsBlocksFault trips (covers.NotPlaced item partial) fault =
    IsSomeAnd (slice_get trips item) (λ (trip : DayTrip). fault ≡ faults.NotPlaced Vehicles item (Trip trip.fid) partial)
IsBlocksFault trips covers.Memory fault = fault ≡ faults.Memory

-- the same refusal, of the duties over pieces
abbrev pub IsDutiesFault : List WorkPiece → CoverFault → PlanFault → Type 0
IsDutiesFault pieces (covers.NoPlan bound places) fault = fault ≡ faults.NoPlan Drivers bound places
IsDutiesFault pieces (covers.NotPlaced item partial) fault =
    IsSomeAnd (slice_get pieces item) (λ (piece : WorkPiece). fault ≡ faults.NotPlaced Drivers item (Piece piece.block piece.index) partial)
IsDutiesFault pieces covers.Memory fault = fault ≡ faults.Memory
