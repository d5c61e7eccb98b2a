-- Promise: the text of the command `plan`, and why there is none.
use Rattle.std.specs.Prelude.{◌≡◌, ◌≢◌, ℕ, ◌⊎◌, List, Some}
use Rattle.vdv451_text.specs.declared.table.Table.{Table}
use Rattle.vdv452_rows.specs.Schema as schema
use Rattle.vdv452_rows.specs.Rows.{table_of}
use Rattle.day_model.specs.Facts.{DayFacts}
use Rattle.plan_command.specs.declared.fault.PlanFault.{PlanFault}
use Rattle.plan_command.specs.declared.fault.PlanFault.TheVariants as faults
use Rattle.plan_command.specs.Planning.{Asked, IsPlanCauseOver}
use Rattle.plan_command.specs.PlanText.{IsPlanTextOver}
use Rattle.planner_run.specs.declared.status.Status.{Status}
use Rattle.planner_run.specs.declared.status.Status.TheVariants as statuses
use Rattle.planner_run.specs.Model.{IsModelCause, IsModelOf}

-- The text of the plan of the day that the tables tell: its vehicle blocks and driver duties, with what they cost and the bounds on their
-- numbers and costs. Each trip of the day stands in exactly one block of one pool within its vehicles, and each piece in exactly one lawful
-- duty of one group within its drivers.
pub record IsPlanText (asked : Asked) (tables : List Table) (day : ℕ) (bytes : List ℕ) : Type 0 where
  pub facts : DayFacts
  pub model : IsModelOf tables day facts
  pub table : Table
  pub found : table_of schema.trips tables ≡ Some table
  pub plan : IsPlanTextOver facts asked table bytes

-- the status for a day without a plan
abbrev pub plan_status_of : PlanFault → Status
plan_status_of (faults.NoPlan side bound places) = statuses.NoPlan side bound places
plan_status_of (faults.NotPlaced side item name partial) = statuses.NotPlaced side item name partial
plan_status_of faults.Memory = statuses.Memory

-- The day that the tables tell has no plan: the bound on the number of a side is above its vehicles or drivers, or rounding leaves a trip
-- or a piece.
pub record IsUnplanned (asked : Asked) (tables : List Table) (day : ℕ) (status : Status) : Type 0 where
  pub facts : DayFacts
  pub model : IsModelOf tables day facts
  pub fault : PlanFault
  pub cause : IsPlanCauseOver facts asked fault
  pub told : fault ≢ faults.Memory
  pub is : status ≡ plan_status_of fault

-- why there is no text: the tables tell no day, or their day has no plan
abbrev pub IsPlanCause : Asked → List Table → ℕ → Status → Type 0
IsPlanCause asked tables day status = IsModelCause tables day status ⊎ IsUnplanned asked tables day status

-- memory ran out, or there is no text
abbrev pub IsPlanRefused : Asked → List Table → ℕ → Status → Type 0
IsPlanRefused asked tables day status = (status ≡ statuses.Memory) ⊎ IsPlanCause asked tables day status
