-- Promise: what is planned anew from a moment, and why it cannot be.
use Rattle.std.specs.Prelude.{◌≡◌, ℕ, ◌≤◌, Bool, true, false, List, length, Option, None, Some, option_and_then, slice_get}
use Rattle.std.specs.Option.{option_map}
use Rattle.plan_core.specs.declared.types.Piece.{Piece as WorkPiece}
use Rattle.cover_core.specs.declared.Column.{Column}
use Rattle.cover_core.specs.Cover.{Problem}
use Rattle.cover_core.specs.Plans.{IsPlan, cost}
use Rattle.cover_plan.specs.Endings.{Numbers, EndsAs}
use Rattle.cover_plan.specs.Endings.{planned}
use Rattle.day_method.specs.declared.side.Side.{Side}
use Rattle.day_method.specs.declared.side.Side.TheVariants.{Vehicles, Drivers}
use Rattle.day_method.specs.Method.{DayProblems, SidePlan, DayEndsAs}
use Rattle.day_method.specs.Method.{answered, refused, left_out}
use Rattle.trip_times.specs.declared.trip.Trip.{Trip as DayTrip}
use Rattle.day_model.specs.Facts.{DayFacts}
use Rattle.depot_network.specs.Network.{blocks_of}
use Rattle.block_cut.specs.Cuts.{pieces_of_plan}
use Rattle.umlauf_write.specs.declared.text.PlanText.{PlanText}
use Rattle.umlauf_write.specs.Printed.{printed}
use Rattle.cover_rest.specs.declared.begun.Begun.{Begun}
use Rattle.cover_rest.specs.Rest.{bodies, body_at, written_plan}
use Rattle.cover_rest.specs.Keeping.{KeepsBegun}
use Rattle.block_rest.specs.declared.head.Head.{Head}
use Rattle.block_rest.specs.Heads.{heads_of}
use Rattle.block_rest.specs.Rest.{may_begin, rest_blocks}
use Rattle.block_rest.specs.Rest.{begun_of as begun_blocks_of}
use Rattle.duty_rest.specs.declared.head.DutyHead.{DutyHead}
use Rattle.duty_rest.specs.Heads.{duty_heads_of}
use Rattle.duty_rest.specs.Rest.{rest_duties}
use Rattle.duty_rest.specs.Rest.{begun_of as begun_duties_of}
use Rattle.plan_command.specs.declared.fault.ItemName.{ItemName}
use Rattle.plan_command.specs.declared.fault.ItemName.TheVariants.{Trip, Piece}
use Rattle.plan_command.specs.declared.fault.PlanFault.{PlanFault}
use Rattle.plan_command.specs.declared.fault.PlanFault.TheVariants as faults
use Rattle.plan_command.specs.Planning.{IsLeft, duties_over}
use Rattle.replan_command.specs.Begun.{duty_facts, none_begun}

-- A day, an earlier plan of it, and the moment from which it is planned anew, in seconds. What has begun before the moment stays as it is.
pub record Replan : Type 0 where
  pub day : DayFacts
  pub earlier : PlanText
  pub moment : ℕ

abbrev pub replan_of : DayFacts → PlanText → ℕ → Replan
replan_of day earlier moment = record { day = day; earlier = earlier; moment = moment }

-- what of the earlier blocks has begun: the heads
abbrev pub block_heads : Replan → List Head
block_heads r = heads_of r.day r.moment r.earlier.blocks.columns

abbrev pub begun_blocks : Replan → List Begun
begun_blocks r = begun_blocks_of (block_heads r)

-- the rest of the blocks, counted (true) or with their costs (false): the heads and the trips in no head are items
abbrev pub blocks_left : Replan → Bool → Problem
blocks_left r counts = rest_blocks r.day counts (block_heads r) r.moment

-- the trips that each item of that rest stands for
abbrev pub block_items : Replan → List (List ℕ)
block_items r = bodies (begun_blocks r) (length r.day.trips)

-- what of the earlier duties has begun, by the pieces of new blocks
abbrev pub duty_heads : Replan → List Column → List DutyHead
duty_heads r blocks = duty_heads_of (duty_facts r.day blocks false) blocks r.earlier r.moment

abbrev pub begun_duties : Replan → List Column → List Begun
begun_duties r blocks = begun_duties_of (duty_heads r blocks)

-- the rest of the duties over new blocks: the heads and the pieces in no head are items
abbrev pub duties_left : Replan → List Column → Bool → Problem
duties_left r blocks counts = rest_duties (duty_facts r.day blocks counts) (duty_heads r blocks)

-- the pieces that each item of that rest stands for
abbrev pub duty_items : Replan → List Column → List (List ℕ)
duty_items r blocks = bodies (begun_duties r blocks) (length (pieces_of_plan r.day blocks))

-- The problems of what is left of a day. Its plans are written out before they are cut and printed, and no plan of blocks is known.
abbrev pub rest_problems : Replan → DayProblems
rest_problems r = record {
  blocks = λ counts. blocks_left r counts;
  known_blocks = None;
  written_blocks = λ columns. written_plan (block_items r) columns;
  printed_blocks = printed;
  duties = λ blocks counts. duties_left r blocks counts;
  written_duties = λ blocks columns. written_plan (duty_items r blocks) columns;
  printed_duties = λ blocks. printed;
}

-- A plan of blocks that keeps what has begun: each head's trips are the first trips of a block of its pool, with no further trip where the
-- head is finished, and every other block leaves its depot at the moment or later.
pub record KeepsBlocks (r : Replan) (blocks : List Column) : Type 0 where
  pub plan : IsPlan (blocks_of r.day false) blocks
  pub keeps : KeepsBegun (begun_blocks r) (may_begin r.day r.moment) blocks

-- A plan of duties over new blocks that keeps what has begun: each head's pieces are the first pieces of a duty of its group, with no
-- further piece where the head is finished, and every other duty has no piece that begins before the moment.
pub record KeepsDuties (r : Replan) (blocks duties : List Column) : Type 0 where
  pub plan : IsPlan (duties_over r.day blocks false) duties
  pub keeps : KeepsBegun (begun_duties r blocks) (λ class list. none_begun r.moment (pieces_of_plan r.day blocks) list) duties

-- One side of a plan: it keeps what has begun, and no such plan has fewer columns than its first bound or costs less than its second one.
pub record IsKeptSide (Keeps : List Column → Type 0) (side : SidePlan) : Type 0 where
  pub keeps : Keeps side.columns
  pub number : (columns : List Column) → Keeps columns → side.count.bound ≤ length columns
  pub cost : (columns : List Column) → Keeps columns → side.cost.bound ≤ cost columns

-- The new plan of a day: the method ends with these blocks and duties over what is left. Both keep what has begun, and the four bounds
-- hold of all plans that do.
pub record IsReplanned (r : Replan) (numbers : Numbers) (blocks duties : SidePlan) : Type 0 where
  pub ends : DayEndsAs (rest_problems r) numbers (answered blocks duties)
  pub blocks_are : IsKeptSide (KeepsBlocks r) blocks
  pub duties_are : IsKeptSide (KeepsDuties r blocks.columns) duties

-- One side as the method makes it: its columns over what is left are written out and put in printed order.
pub record IsWrittenSide (counted costed : Problem) (items : List (List ℕ)) (numbers : Numbers) (side : SidePlan) : Type 0 where
  pub columns : List Column
  pub made : EndsAs counted costed numbers (planned side.count side.cost columns)
  pub order : side.columns ≡ printed (written_plan items columns)

-- the blocks as the method makes them
abbrev pub AreWrittenBlocks : Replan → Numbers → SidePlan → Type 0
AreWrittenBlocks r numbers blocks = IsWrittenSide (blocks_left r true) (blocks_left r false) (block_items r) numbers blocks

-- Where the kept bound on the number of a side is above its places no plan of that side keeps what has begun: no plan of blocks of the
-- day, or no plan of duties over the new blocks.
abbrev pub HasNoneOf : Replan → Numbers → Side → Type 0
HasNoneOf r numbers Vehicles = (columns : List Column) → KeepsBlocks r columns → ⊥
HasNoneOf r numbers Drivers =
    (blocks : SidePlan) × AreWrittenBlocks r numbers blocks × ((columns : List Column) → KeepsDuties r blocks.columns columns → ⊥)

-- rounding leaves an item of a rest beside columns that are written out
pub record IsLeftOf (p : Problem) (items : List (List ℕ)) (item : ℕ) (partial : List Column) : Type 0 where
  pub columns : List Column
  pub left : IsLeft p item columns
  pub written : partial ≡ written_plan items columns

-- the first that an item of a rest stands for
abbrev pub first_of : List (List ℕ) → ℕ → Option ℕ
first_of items item = slice_get (body_at items item) 0

-- the name of an item that stands for trips: that of the first of them
abbrev pub trip_name : List DayTrip → List (List ℕ) → ℕ → Option ItemName
trip_name trips items item = option_and_then (λ t. option_map (λ (trip : DayTrip). Trip trip.fid) (slice_get trips t)) (first_of items item)

-- the name of an item that stands for pieces: that of the first of them
abbrev pub piece_name : List WorkPiece → List (List ℕ) → ℕ → Option ItemName
piece_name pieces items item =
    option_and_then (λ k. option_map (λ (piece : WorkPiece). Piece piece.block piece.index) (slice_get pieces k)) (first_of items item)

-- an item of the blocks' rest is left, which has this name
abbrev pub IsLeftTrip : Replan → ℕ → ItemName → List Column → Type 0
IsLeftTrip r item name partial =
    IsLeftOf (blocks_left r false) (block_items r) item partial × (trip_name r.day.trips (block_items r) item ≡ Some name)

-- an item of the duties' rest over new blocks is left, which has this name
pub record IsLeftPiece (r : Replan) (numbers : Numbers) (item : ℕ) (name : ItemName) (partial : List Column) : Type 0 where
  pub blocks : SidePlan
  pub blocks_are : AreWrittenBlocks r numbers blocks
  pub is_left : IsLeftOf (duties_left r blocks.columns false) (duty_items r blocks.columns) item partial
  pub named : piece_name (pieces_of_plan r.day blocks.columns) (duty_items r blocks.columns) item ≡ Some name

abbrev pub IsLeftItem : Replan → Numbers → Side → ℕ → ItemName → List Column → Type 0
IsLeftItem r numbers Vehicles item name partial = IsLeftTrip r item name partial
IsLeftItem r numbers Drivers item name partial = IsLeftPiece r numbers item name partial

-- why there is no new plan; running out of memory needs no cause
abbrev pub IsRestCause : Replan → Numbers → PlanFault → Type 0
IsRestCause r numbers (faults.NoPlan side bound places) =
    DayEndsAs (rest_problems r) numbers (refused side bound places) × HasNoneOf r numbers side
IsRestCause r numbers (faults.NotPlaced side item name partial) =
    DayEndsAs (rest_problems r) numbers (left_out side item partial.columns) × IsLeftItem r numbers side item name partial.columns
IsRestCause r numbers faults.Memory = Unit {0}
