-- Promise: the text of the command `certify`.
use Rattle.std.specs.Prelude.{ℕ, List}
use Rattle.vdv451_text.specs.declared.table.Table.{Table}
use Rattle.day_model.specs.Facts.{DayFacts}
use Rattle.plan_certify.specs.Certificate.{IsCertTextOver}
use Rattle.plan_command.specs.Planning.{Asked}
use Rattle.planner_run.specs.Model.{IsModelOf}

-- The text of the certificate of the plan of the day that the tables tell, the plan that `plan` writes where the same is asked: for each of
-- the four passes the kept prices and class prices, and the cover that shows that they are paid.
pub record IsCertText (asked : Asked) (tables : List Table) (day : ℕ) (bytes : List ℕ) : Type 0 where
  pub facts : DayFacts
  pub model : IsModelOf tables day facts
  pub cert : IsCertTextOver facts asked bytes
