-- Promise: the texts of the command `make`.
use Rattle.std.specs.Prelude.{◌≡◌, ℕ, List}
use Rattle.vdv451_text.specs.declared.table.Table.{Table}
use Rattle.vdv451_text.specs.Plain.{text}
use Rattle.day_maker.specs.Made.{made_tables}
use Rattle.day_model.specs.Facts.{DayFacts}
use Rattle.plan_command.specs.ShortText.{IsShortTextOver}
use Rattle.plan_command.specs.Planning.{Asked}
use Rattle.planner_run.specs.Model.{IsModelOf}

-- the text of the tables of a day that is made from a seed, with so many trips
abbrev pub IsMadeText : ℕ → ℕ → List ℕ → Type 0
IsMadeText seed trips bytes = bytes ≡ text (made_tables seed trips)

-- The short text of the plan of the day that the tables tell: the numbers of its trips, blocks, pieces and duties, and the bounds of the
-- plan whose whole text `plan` writes of these tables.
pub record IsShortText (asked : Asked) (tables : List Table) (day : ℕ) (bytes : List ℕ) : Type 0 where
  pub facts : DayFacts
  pub model : IsModelOf tables day facts
  pub plan : IsShortTextOver facts asked bytes
