-- Promise: a planned day as the checker is handed it, and what has to hold of it.
use Rattle.std.specs.Prelude.{◌≡◌, false, IfSome}
use Rattle.plan_core.specs.declared.types.Point.{Point}
use Rattle.vdv451_text.specs.declared.table.Table.{Table}
use Rattle.vdv452_tables.specs.Ranges.{IsTime}
use Rattle.cover_core.specs.Plans.{IsPlan}
use Rattle.day_method.specs.Method.{SidePlan}
use Rattle.day_model.specs.Facts.{DayFacts, dead}
use Rattle.day_model.specs.Ranges.{AreInRange}
use Rattle.depot_network.specs.Network.{blocks_of}
use Rattle.umlauf_write.specs.Answers.{answer_tables}
use Rattle.umlauf_write.specs.Printed.{printed}
use Rattle.plan_read.specs.ReadsBack.{HaveOwnNumbers, IsTripTable}
use Rattle.plan_cert.specs.declared.cert.Cert.{Cert}
use Rattle.plan_cert.specs.Shapes.{class_numbers_of}
use Rattle.plan_cert.specs.Writing.{tables_of}
use Rattle.plan_command.specs.Planning.{Asked, IsDayPlan, duties_over}
use Rattle.plan_command.specs.PlanText.{answer_of}
use Rattle.plan_certify.specs.Certificate.{ArePaid}
use Rattle.cert_check.specs.Judging.{Case}

-- the day, the table of its trips, and the tables that the planner writes of blocks and duties and of their certificate
abbrev pub case_of : DayFacts → Table → SidePlan → SidePlan → Cert → Case
case_of facts table blocks duties cert = record {
  day = facts;
  rec_frt = table;
  plan = answer_tables facts table (answer_of facts blocks duties);
  cert = tables_of (class_numbers_of facts) cert;
}

-- no deadhead takes longer than two days
abbrev pub HasShortMoves : DayFacts → Type 0
HasShortMoves facts = (from to : Point) → IfSome (dead facts from to) IsTime

-- A day whose plans can be checked, and the table of its trips. The table REC_FRT is plain and has the columns FRT_FID and UM_UID and one
-- row of the day's version for each trip; no two trips have one FRT_FID, the numbers of pools and of groups rise, and those of groups
-- have 32 bits; the numbers of the day are in their ranges, and no deadhead takes longer than two days.
pub record IsCheckableDay (facts : DayFacts) (table : Table) : Type 0 where
  pub table_is : IsTripTable facts table
  pub numbers : HaveOwnNumbers facts
  pub in_range : AreInRange facts
  pub short : HasShortMoves facts

-- Blocks and duties of such a day that can be checked. The blocks are a plan, the duties are a plan over their pieces, and both stand in
-- printed order; and the offers that were kept in the four passes are paid, each with the bound that it gives.
pub record IsCheckable (facts : DayFacts) (table : Table) (blocks duties : SidePlan) : Type 0 where
  pub day : IsCheckableDay facts table
  pub blocks_are : IsPlan (blocks_of facts false) blocks.columns
  pub blocks_order : printed blocks.columns ≡ blocks.columns
  pub duties_are : IsPlan (duties_over facts blocks.columns false) duties.columns
  pub duties_order : printed duties.columns ≡ duties.columns
  pub paid : ArePaid facts blocks duties

-- the blocks and duties that the method ends with can be checked
abbrev pub DayPlansAreCheckable : DayFacts → Table → Type 0
DayPlansAreCheckable facts table =
    (asked : Asked) (blocks duties : SidePlan) → IsCheckableDay facts table → IsDayPlan facts asked blocks duties →
    IsCheckable facts table blocks duties
