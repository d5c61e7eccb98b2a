-- Promise: the text of the plan of a day.
use Rattle.std.specs.Prelude.{◌≡◌, ◌<◌, ◌≤◌, ◌^◌, ℕ, false, All, List, [], ◌∷◌, length, map}
use Rattle.plan_core.specs.Limits.{most_items}
use Rattle.vdv451_text.specs.declared.table.Table.{Table}
use Rattle.vdv451_text.specs.Plain.{text}
use Rattle.trip_times.specs.declared.trip.Trip.{Trip}
use Rattle.cover_core.specs.FirstLeast.{AreCheap}
use Rattle.cover_core.specs.Plans.{IsPlan}
use Rattle.day_method.specs.Method.{SidePlan}
use Rattle.day_model.specs.Facts.{DayFacts}
use Rattle.depot_network.specs.Network.{blocks_of}
use Rattle.block_cut.specs.Cuts.{pieces_of_plan}
use Rattle.block_cut.specs.Legs.{block_legs}
use Rattle.umlauf_write.specs.declared.answer.Answer.{Answer}
use Rattle.umlauf_write.specs.Answers.{answer_tables}
use Rattle.umlauf_write.specs.Trips.{HasOneRow}
use Rattle.plan_command.specs.Planning.{Asked, IsDayPlan, duties_over}

-- a table has exactly one row of the day's version for each trip of the day, and no number of a trip is above 10^18
pub record HasTripRows (facts : DayFacts) (table : Table) : Type 0 where
  pub one : All (λ (trip : Trip). HasOneRow table facts.kind.version trip.fid) facts.trips
  pub fids : All (λ (trip : Trip). trip.fid ≤ 10 ^ 18) facts.trips

-- The bounds of the four passes in their order: on the number of blocks, on their cost, on the number of duties, and on theirs.
abbrev pub four_bounds : SidePlan → SidePlan → List ℕ
four_bounds blocks duties = blocks.count.bound ∷ blocks.cost.bound ∷ duties.count.bound ∷ duties.cost.bound ∷ []

-- what is printed of a plan: the blocks with their legs and the pieces that they are cut into, the duties, and the four bounds
abbrev pub answer_of : DayFacts → SidePlan → SidePlan → Answer
answer_of facts blocks duties = record {
  blocks = record { columns = blocks.columns };
  legs = map (block_legs facts) blocks.columns;
  pieces = pieces_of_plan facts blocks.columns;
  duties = record { columns = duties.columns };
  bounds = four_bounds blocks duties;
}

-- The text of the plan of a day, from the table that its trips were read from: the seven tables of the blocks and duties that the method
-- ends with. No worker occurs in it.
pub record IsPlanTextOver (facts : DayFacts) (asked : Asked) (table : Table) (bytes : List ℕ) : Type 0 where
  pub blocks : SidePlan
  pub duties : SidePlan
  pub plan : IsDayPlan facts asked blocks duties
  pub written : bytes ≡ text (answer_tables facts table (answer_of facts blocks duties))

-- the columns, worths and bounds of a plan are those of a day, so that it can be printed
pub record IsPrintable (facts : DayFacts) (blocks duties : SidePlan) : Type 0 where
  pub blocks_are : IsPlan (blocks_of facts false) blocks.columns
  pub duties_are : IsPlan (duties_over facts blocks.columns false) duties.columns
  pub few_blocks : length blocks.columns ≤ most_items
  pub few_pieces : length (pieces_of_plan facts blocks.columns) ≤ most_items
  pub cheap_blocks : AreCheap blocks.columns
  pub cheap_duties : AreCheap duties.columns
  pub bounds : All (λ bound. bound < 2 ^ 63) (four_bounds blocks duties)
