-- Promise: the text of the command `replan`, and why there is none.
use Rattle.std.specs.Prelude.{◌≡◌, ◌≢◌, ℕ, ◌⊎◌, List, Some}
use Rattle.vdv451_text.specs.declared.table.Table.{Table}
use Rattle.vdv452_rows.specs.Schema as schema
use Rattle.vdv452_rows.specs.Rows.{table_of}
use Rattle.cover_plan.specs.Endings.{Numbers}
use Rattle.day_model.specs.Facts.{DayFacts}
use Rattle.plan_command.specs.declared.fault.PlanFault.TheVariants as plans
use Rattle.replan_command.specs.declared.fault.ReplanFault.{ReplanFault}
use Rattle.replan_command.specs.declared.fault.ReplanFault.TheVariants as faults
use Rattle.replan_command.specs.ReplanText.{IsReplanCauseOver, IsReplanTextOver}
use Rattle.planner_run.specs.declared.status.Status.{Status}
use Rattle.planner_run.specs.declared.status.Status.TheVariants as statuses
use Rattle.planner_run.specs.Model.{IsModelCause, IsModelOf}
use Rattle.planner_run.specs.PlanText.{plan_status_of}

-- The text of the new plan of the day that the planning tables tell, by the tables of an earlier plan and the moment from which it is
-- planned anew: the tables that `plan` writes, of blocks and duties that keep what has begun before the moment, and of bounds on the
-- numbers and costs of all that do.
pub record IsReplanText (numbers : Numbers) (moment : ℕ) (tables old : List Table) (day : ℕ) (bytes : List ℕ) : Type 0 where
  pub facts : DayFacts
  pub model : IsModelOf tables day facts
  pub table : Table
  pub found : table_of schema.trips tables ≡ Some table
  pub plan : IsReplanTextOver facts old moment numbers table bytes

-- the status for a day without a new plan
abbrev pub replan_status_of : ReplanFault → Status
replan_status_of (faults.OldPlan reason) = statuses.OldPlan reason
replan_status_of (faults.Plan fault) = plan_status_of fault

-- The day that the planning tables tell has no new plan: the tables of the earlier one are no plan of it, or else what is left of the day
-- has none.
pub record IsNotReplanned (numbers : Numbers) (moment : ℕ) (tables old : List Table) (day : ℕ) (status : Status) : Type 0 where
  pub facts : DayFacts
  pub model : IsModelOf tables day facts
  pub fault : ReplanFault
  pub cause : IsReplanCauseOver facts old moment numbers fault
  pub told : fault ≢ faults.Plan plans.Memory
  pub is : status ≡ replan_status_of fault

-- why there is no text: the planning tables tell no day, or their day has no new plan
abbrev pub IsReplanCause : Numbers → ℕ → List Table → List Table → ℕ → Status → Type 0
IsReplanCause numbers moment tables old day status = IsModelCause tables day status ⊎ IsNotReplanned numbers moment tables old day status

-- memory ran out, or there is no text
abbrev pub IsReplanRefused : Numbers → ℕ → List Table → List Table → ℕ → Status → Type 0
IsReplanRefused numbers moment tables old day status = (status ≡ statuses.Memory) ⊎ IsReplanCause numbers moment tables old day status

-- the status for a day without a new plan, with its cause; running out of memory needs none
pub record IsReplanStatus (facts : DayFacts) (old : List Table) (moment : ℕ) (numbers : Numbers) (status : Status) : Type 0 where
  pub fault : ReplanFault
  pub cause : IsReplanCauseOver facts old moment numbers fault
  pub is : status ≡ replan_status_of fault
