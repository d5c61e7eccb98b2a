-- Promise: the line of the command `check`, and the status with which it ends.
use Rattle.std.specs.Prelude.{◌≡◌, ℕ, List, [], ◌∷◌, Some, codes, decimal}
use Rattle.vdv451_text.specs.declared.table.Table.{Table}
use Rattle.vdv452_rows.specs.Schema as schema
use Rattle.vdv452_rows.specs.Rows.{table_of}
use Rattle.day_model.specs.Facts.{DayFacts}
use Rattle.cert_check.specs.declared.reason.Answered.{Answered}
use Rattle.cert_check.specs.declared.reason.Answered.TheVariants.{Yes, No}
use Rattle.cert_check.specs.declared.reason.Reason.{Reason}
use Rattle.cert_check.specs.Names.{name_of as reason_name, number_of as reason_number}
use Rattle.cert_check.specs.Reasons.{IsAnswer as IsCheckerAnswer}
use Rattle.planner_run.specs.declared.status.Status.{Status}
use Rattle.planner_run.specs.declared.status.Status.TheVariants as statuses
use Rattle.input_files.specs.Lines.{joined as joined_line}
use Rattle.planner_run.specs.Model.{IsModelOf}

-- the line of an answer of the checker
abbrev pub no_line : Reason → List ℕ
no_line reason = joined_line (codes "no " ∷ decimal (reason_number reason) ∷ codes " " ∷ reason_name reason ∷ codes "\n" ∷ [])

abbrev pub check_line : Answered → List ℕ
check_line (Yes vehicles block_cost duty_count duty_cost) = codes "yes\n"
check_line (No reason) = no_line reason

-- a no is a status of its own
abbrev pub ending_of : Answered → Status
ending_of (Yes vehicles block_cost duty_count duty_cost) = statuses.Ok
ending_of (No reason) = statuses.CheckNo reason

-- what the checker answers of a day, from the table that its trips were read from, is written as a line
pub record IsCheckTextOver (facts : DayFacts) (table : Table) (plan cert : List Table) (ending : Status) (bytes : List ℕ) : Type 0 where
  pub answer : Answered
  pub judged : IsCheckerAnswer (record { day = facts; rec_frt = table; plan = plan; cert = cert }) answer
  pub written : bytes ≡ check_line answer
  pub ends : ending ≡ ending_of answer

-- The line that `check` writes of the tables of a plan and of a certificate, for the day that the planning tables tell: `yes`, or `no` with
-- number and name of the first reason against them.
pub record IsCheckText (tables plan cert : List Table) (day : ℕ) (ending : Status) (bytes : List ℕ) : Type 0 where
  pub facts : DayFacts
  pub model : IsModelOf tables day facts
  pub table : Table
  pub found : table_of schema.trips tables ≡ Some table
  pub check : IsCheckTextOver facts table plan cert ending bytes
