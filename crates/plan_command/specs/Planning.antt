-- Promise: the plan of a day, and why a day has none.
use Rattle.std.specs.Prelude.{◌≡◌, ℕ, Bool, true, false, List, Option, None, IsSomeAnd, length, slice_get}
use Rattle.plan_core.specs.Limits.{most_kept_price}
use Rattle.plan_core.specs.declared.types.Piece.{Piece as WorkPiece}
use Rattle.cover_core.specs.declared.Column.{Column}
use Rattle.cover_core.specs.Cover.{Problem}
use Rattle.cover_core.specs.FirstLeast.{AllWithin}
use Rattle.cover_core.specs.Plans.{IsPaid, IsPlan, bound_of}
use Rattle.dual_bound.specs.declared.kept.Kept.{Kept}
use Rattle.plan_round.specs.Laws.{HasRoomForEach, IsStuck}
use Rattle.price_rounds.specs.Rounds.{IsBoundOf}
use Rattle.cover_plan.specs.declared.known.KnownPlan.{KnownPlan}
use Rattle.cover_plan.specs.declared.planned.Planned.{Planned}
use Rattle.cover_plan.specs.Endings.{Numbers, EndsBy, numbers_of}
use Rattle.cover_plan.specs.Endings.{planned}
use Rattle.cover_plan.specs.Ends.{HasNone, IsCountBoundOf}
use Rattle.day_method.specs.declared.side.Side.{Side}
use Rattle.day_method.specs.declared.side.Side.TheVariants.{Vehicles, Drivers}
use Rattle.day_method.specs.Method.{DayEnding, DayProblems, SidePlan, DayEndsAs}
use Rattle.day_method.specs.Method.{answered, refused, left_out}
use Rattle.trip_times.specs.declared.trip.Trip.{Trip as DayTrip}
use Rattle.day_model.specs.Facts.{DayFacts}
use Rattle.depot_network.specs.Network.{blocks_of}
use Rattle.block_cut.specs.Cuts.{pieces_of_plan}
use Rattle.duty_network.specs.Duties.{duties}
use Rattle.umlauf_write.specs.Printed.{printed}
use Rattle.plan_command.specs.declared.fault.ItemName.{ItemName}
use Rattle.plan_command.specs.declared.fault.ItemName.TheVariants.{Trip, Piece}
use Rattle.plan_command.specs.declared.fault.PlanFault.{PlanFault}
use Rattle.plan_command.specs.declared.fault.PlanFault.TheVariants as faults
use Rattle.plan_command.specs.declared.method.Method.{Method}
use Rattle.plan_command.specs.Flow.{AreKnownBlocks, IsExact}

-- what decides on the plan of a day: all but the number of workers
pub record Asked : Type 0 where
  pub numbers : Numbers
  pub flow : Bool

abbrev pub asked_of : Method → Asked
asked_of method = record { numbers = numbers_of method.effort; flow = method.flow }

-- the duties over the pieces of blocks, where the blocks are numbered from 1 by their places
abbrev pub duties_over : DayFacts → List Column → Bool → Problem
duties_over facts blocks counts = duties (record { pieces = pieces_of_plan facts blocks; params = facts.params; counts = counts })

-- The problems of a day: its blocks, of which a plan may be known, and the duties over the pieces of the blocks in printed order.
abbrev pub day_problems : DayFacts → Option KnownPlan → DayProblems
day_problems facts known = record {
  blocks = λ counts. blocks_of facts counts;
  known_blocks = known;
  written_blocks = λ columns. columns;
  printed_blocks = printed;
  duties = λ blocks counts. duties_over facts blocks counts;
  written_duties = λ blocks columns. columns;
  printed_duties = λ blocks. printed;
}

-- planning of the day ends so
pub record PlanEndsAs (facts : DayFacts) (asked : Asked) (ending : DayEnding) : Type 0 where
  pub known : Option KnownPlan
  pub known_is : AreKnownBlocks facts asked.flow known
  pub ends : DayEndsAs (day_problems facts known) asked.numbers ending

-- An offer that is dual feasible: there is a price for each item, from -3,000,000,000,000,000 to 3,000,000,000,000,000, and one for each
-- class; no column has a value below minus the price of its class; and its bound is theirs.
pub record IsDualFeasible (p : Problem) (kept : Kept) : Type 0 where
  pub prices : (length kept.prices.items ≡ p.items) × AllWithin most_kept_price kept.prices.items
  pub class_prices : length kept.class_prices ≡ length p.caps
  pub paid : IsPaid p kept.prices.items kept.class_prices
  pub bound : kept.bound ≡ bound_of kept.prices.items kept.class_prices p.caps

-- One side of a day as it is planned, from its problem with each worth 1 and the one with costs: what the method makes, or the plan that is
-- known, in printed order, with the offers kept in its two passes. It is a plan (each item stands in exactly one column, no class has more
-- columns than its cap, and each column has its worth); no plan has fewer columns than the first bound, and none costs less than the second
-- one.
pub record IsPlannedSide (counted costed : Problem) (numbers : Numbers) (AreKnown : Option KnownPlan → Type 0) (side : SidePlan) : Type 0
  where
    pub known : Option KnownPlan
    pub known_is : AreKnown known
    pub columns : List Column
    pub planned : EndsBy counted costed numbers known (planned side.count side.cost columns)
    pub order : side.columns ≡ printed columns
    pub plan : IsPlan costed side.columns
    pub count_bound : IsCountBoundOf costed side.count.bound
    pub cost_bound : IsBoundOf costed side.cost.bound
    pub count_paid : IsDualFeasible counted side.count
    pub cost_paid : IsDualFeasible costed side.cost

-- this plan is known, or none is
abbrev pub IsThis : Option KnownPlan → Option KnownPlan → Type 0
IsThis this known = known ≡ this

-- the blocks of a day as they are planned
abbrev pub ArePlannedBlocks : DayFacts → Asked → SidePlan → Type 0
ArePlannedBlocks facts asked blocks =
    IsPlannedSide (blocks_of facts true) (blocks_of facts false) asked.numbers (AreKnownBlocks facts asked.flow) blocks

-- the duties over the pieces of blocks as they are planned
abbrev pub ArePlannedDuties : DayFacts → Asked → List Column → SidePlan → Type 0
ArePlannedDuties facts asked blocks duties =
    IsPlannedSide (duties_over facts blocks true) (duties_over facts blocks false) asked.numbers (IsThis None) duties

-- The plan of a day: the method ends with these blocks and duties. Each trip stands in exactly one block of one pool within its vehicles,
-- and each piece in exactly one lawful duty of one group within its drivers; and the four bounds hold. Where the words ask for the flow and
-- the day has a flow plan of blocks, these are the blocks, and the bound of their cost is their cost.
pub record IsDayPlan (facts : DayFacts) (asked : Asked) (blocks duties : SidePlan) : Type 0 where
  pub ends : PlanEndsAs facts asked (answered blocks duties)
  pub blocks_are : ArePlannedBlocks facts asked blocks
  pub duties_are : ArePlannedDuties facts asked blocks.columns duties
  pub exact : IsExact facts asked.flow blocks

-- one side of a plan: its columns and the kept offers
abbrev pub side_of : Planned → SidePlan
side_of made = record { columns = made.plan.columns; count = made.count; cost = made.cost }

-- Where the kept bound on the number of a side is above its places there is no plan of that side at all: no blocks of the day, or no
-- duties over the pieces of the blocks that were planned.
abbrev pub HasNoneOf : DayFacts → Asked → Side → Type 0
HasNoneOf facts asked Vehicles = HasNone (blocks_of facts false)
HasNoneOf facts asked Drivers = (blocks : SidePlan) × ArePlannedBlocks facts asked blocks × HasNone (duties_over facts blocks.columns false)

-- Rounding leaves an item beside these columns: each class in which it alone has a worth is full, and no column takes it. That does not
-- happen where each item alone has a worth in a class that has at least as many places as there are items.
pub record IsLeft (p : Problem) (item : ℕ) (partial : List Column) : Type 0 where
  pub stuck : IsStuck p item partial
  pub no_room : ¬ HasRoomForEach p

-- a trip is left, which has this name: its FRT_FID
abbrev pub IsLeftTrip : DayFacts → ℕ → ItemName → List Column → Type 0
IsLeftTrip facts item name partial =
    IsLeft (blocks_of facts false) item partial × IsSomeAnd (slice_get facts.trips item) (λ (trip : DayTrip). name ≡ Trip trip.fid)

-- a piece of planned blocks is left, which has this name: the number of its block and its index in the block
pub record IsLeftPiece (facts : DayFacts) (asked : Asked) (item : ℕ) (name : ItemName) (partial : List Column) : Type 0 where
  pub blocks : SidePlan
  pub blocks_are : ArePlannedBlocks facts asked blocks
  pub is_left : IsLeft (duties_over facts blocks.columns false) item partial
  pub named : IsSomeAnd (slice_get (pieces_of_plan facts blocks.columns) item) (λ (piece : WorkPiece). name ≡ Piece piece.block piece.index)

abbrev pub IsLeftItem : DayFacts → Asked → Side → ℕ → ItemName → List Column → Type 0
IsLeftItem facts asked Vehicles item name partial = IsLeftTrip facts item name partial
IsLeftItem facts asked Drivers item name partial = IsLeftPiece facts asked item name partial

-- why a day has no plan; running out of memory needs no cause
abbrev pub IsPlanCauseOver : DayFacts → Asked → PlanFault → Type 0
IsPlanCauseOver facts asked (faults.NoPlan side bound places) =
    PlanEndsAs facts asked (refused side bound places) × HasNoneOf facts asked side
IsPlanCauseOver facts asked (faults.NotPlaced side item name partial) =
    PlanEndsAs facts asked (left_out side item partial.columns) × IsLeftItem facts asked side item name partial.columns
IsPlanCauseOver facts asked faults.Memory = Unit {0}
