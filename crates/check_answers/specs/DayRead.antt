-- Promise: a day that is read from tables.
use Rattle.std.specs.Prelude.{◌≡◌, ◌<◌, ◌^◌, All, IsTrue, List, None, Some, length}
use Rattle.vdv451_text.specs.declared.table.Table.{Table}
use Rattle.vdv451_text.specs.Plain.{are_plain}
use Rattle.vdv452_tables.specs.declared.reading.Needs.TheVariants as needs
use Rattle.vdv452_rows.specs.Schema as schema
use Rattle.vdv452_tables.specs.Calendar.{net_of, schemas_of}
use Rattle.vdv452_rows.specs.Rows.{first_fault, table_of}
use Rattle.day_model.specs.Building.{IsDayOf}
use Rattle.day_model.specs.Facts.{DayFacts}
use Rattle.plan_command.specs.PlanText.{HasTripRows}
use Rattle.check_answers.specs.Checkable.{IsCheckableDay}

-- A day of plain tables, as files have them, in which there is no fault, and the table REC_FRT among them, with a row for each of its
-- trips.
pub record IsReadDay (tables : List Table) (facts : DayFacts) (table : Table) : Type 0 where
  pub plain : IsTrue (are_plain tables)
  pub few : All (λ (t : Table). length t.rows < 2 ^ 32) tables
  pub faultless : first_fault (schemas_of needs.All) tables ≡ None
  pub day : IsDayOf (net_of needs.All tables) facts.kind facts
  pub found : table_of schema.trips tables ≡ Some table
  pub rows : HasTripRows facts table

-- The plans of such a day can be checked: no key stands twice in a table, so no two trips have one FRT_FID, and the numbers of pools and
-- of groups rise; and no deadhead takes longer than two days.
abbrev pub ReadDaysAreCheckable : Type 0
ReadDaysAreCheckable = (tables : List Table) (facts : DayFacts) (table : Table) → IsReadDay tables facts table → IsCheckableDay facts table
