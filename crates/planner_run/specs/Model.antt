-- Promise: the day that the tables of all files tell, and why they tell none.
use Rattle.std.specs.Prelude.{◌≡◌, ℕ, ◌⊎◌, List, None, Some}
use Rattle.vdv451_text.specs.declared.table.Table.{Table}
use Rattle.vdv452_rows.specs.declared.fault.TableFault.{TableFault}
use Rattle.vdv452_tables.specs.declared.net.Net.{Net}
use Rattle.vdv452_tables.specs.declared.reading.Needs.{Needs}
use Rattle.vdv452_tables.specs.declared.reading.Needs.TheVariants as needs
use Rattle.vdv452_tables.specs.Calendar.{net_of, schemas_of}
use Rattle.vdv452_rows.specs.Rows.{first_fault}
use Rattle.day_calendar.specs.declared.day.DayKind.{DayKind}
use Rattle.day_calendar.specs.Kinds.{IsKindOf}
use Rattle.day_model.specs.declared.fault.DayModelFault.{DayModelFault}
use Rattle.day_model.specs.declared.fault.DayModelFault.TheVariants as models
use Rattle.day_model.specs.Building.{HasDayFault, IsDayOf}
use Rattle.day_model.specs.Facts.{DayFacts}
use Rattle.planner_run.specs.declared.status.Status.{Status}
use Rattle.planner_run.specs.declared.status.Status.TheVariants as statuses
use Rattle.planner_run.specs.declared.status.InputFault.TheVariants as inputs
use Rattle.planner_run.specs.Trips.{IsDayFault, IsDayRefusal}

-- the day of a network
pub record IsModelIn (net : Net) (day : ℕ) (facts : DayFacts) : Type 0 where
  pub kind_is : IsKindOf net day facts.kind
  pub day_is : IsDayOf net facts.kind facts

-- the tables have no fault, and this is their day
pub record IsModelOf (tables : List Table) (day : ℕ) (facts : DayFacts) : Type 0 where
  pub faultless : first_fault (schemas_of needs.All) tables ≡ None
  pub model : IsModelIn (net_of needs.All tables) day facts

-- the day has a day type in a network, and this first reason against it
pub record HasModelFaultIn (net : Net) (day : ℕ) (fault : DayModelFault) : Type 0 where
  pub kind : DayKind
  pub kind_is : IsKindOf net day kind
  pub wrong : HasDayFault net kind fault

-- the tables have no fault, and the day has this first reason against it
pub record HasModelFault (tables : List Table) (day : ℕ) (fault : DayModelFault) : Type 0 where
  pub faultless : first_fault (schemas_of needs.All) tables ≡ None
  pub fault_in : HasModelFaultIn (net_of needs.All tables) day fault

-- why the tables tell no day
abbrev pub IsModelCause : List Table → ℕ → Status → Type 0
IsModelCause tables day (statuses.Input (inputs.Table fault)) = first_fault (schemas_of needs.All) tables ≡ Some fault
IsModelCause tables day (statuses.Input (inputs.Trips count)) = HasModelFault tables day (models.TooManyTrips count)
IsModelCause tables day (statuses.Input (inputs.Params fault)) = HasModelFault tables day (models.Params fault)
IsModelCause tables day (statuses.Input (inputs.Trip fid fault)) = HasModelFault tables day (models.Trip fid fault)
IsModelCause tables day (statuses.Day fault) =
    (first_fault (schemas_of needs.All) tables ≡ None) × IsDayFault (net_of needs.All tables) day fault
IsModelCause tables day _ = ⊥

-- memory ran out, or the tables tell no day
abbrev pub IsModelRefused : List Table → ℕ → Status → Type 0
IsModelRefused tables day status = (status ≡ statuses.Memory) ⊎ IsModelCause tables day status

-- the status for a first reason against a day
abbrev pub model_status : DayModelFault → Status
model_status (models.TooManyTrips count) = statuses.Input (inputs.Trips count)
model_status (models.Params fault) = statuses.Input (inputs.Params fault)
model_status (models.Trip fid fault) = statuses.Input (inputs.Trip fid fault)
model_status models.Memory = statuses.Memory

-- a network has no day: the day has no day type, or there is a first reason against it
abbrev pub IsModelRefusalIn : Net → ℕ → Status → Type 0
IsModelRefusalIn net day status =
    (status ≡ statuses.Memory) ⊎
    (IsDayRefusal net day status ⊎ ((fault : DayModelFault) × HasModelFaultIn net day fault × (status ≡ model_status fault)))

-- memory ran out, or the tables that are needed have this first fault
abbrev pub IsTableRefusal : Needs → List Table → Status → Type 0
IsTableRefusal needed tables status =
    (status ≡ statuses.Memory) ⊎ ((fault : TableFault) × (first_fault (schemas_of needed) tables ≡ Some fault)
    × (status ≡ statuses.Input (inputs.Table fault)))
