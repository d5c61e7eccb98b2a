-- Promise: the text of the command `day`.
use Rattle.std.specs.Prelude.{◌≡◌, ℕ, List}
use Rattle.vdv451_text.specs.declared.table.Table.{Table}
use Rattle.vdv451_text.specs.Plain.{text}
use Rattle.vdv452_tables.specs.declared.net.Net.{Net}
use Rattle.vdv452_tables.specs.declared.reading.Needs.TheVariants as needs
use Rattle.vdv452_tables.specs.Calendar.{net_of}
use Rattle.day_model.specs.Facts.{DayFacts}
use Rattle.day_tables.specs.DayTables.{day_tables_of}
use Rattle.planner_run.specs.Model.{IsModelIn, IsModelOf}

-- the text of a day in a network: what the day is, and its trips
pub record IsDayTextIn (net : Net) (day : ℕ) (bytes : List ℕ) : Type 0 where
  pub facts : DayFacts
  pub model : IsModelIn net day facts
  pub written : bytes ≡ text (day_tables_of net facts)

-- the same of the day that the tables tell
pub record IsDayText (tables : List Table) (day : ℕ) (bytes : List ℕ) : Type 0 where
  pub facts : DayFacts
  pub model : IsModelOf tables day facts
  pub written : bytes ≡ text (day_tables_of (net_of needs.All tables) facts)
