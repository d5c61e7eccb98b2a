-- Nothing stands against planning of a made day.
use Rattle.std.proofs.Common.{◌≡◌, ℕ, ◌≤◌, inl, inr, Option, Some, None, sym, ◌∙◌}
use Rattle.vdv452_rows.specs.declared.fault.TableFault.{TableFault}
use Rattle.vdv452_tables.specs.declared.reading.Needs.TheVariants as needs
use Rattle.vdv452_tables.specs.Calendar.{net_of, schemas_of}
use Rattle.vdv452_rows.specs.Rows.{first_fault}
use Rattle.vdv452_rows.specs.TypedRows.{version_row}
use Rattle.day_calendar.specs.declared.day.DayFault.{DayFault}
use Rattle.day_calendar.specs.declared.day.DayFault.TheVariants as days
use Rattle.day_model.specs.declared.fault.DayModelFault.{DayModelFault}
use Rattle.day_maker.specs.Made.{made_tables}
use Rattle.plan_command.specs.Planning.{Asked}
use Rattle.made_plans.proofs.MadeModel.{has_kind, no_day_fault}
use Rattle.made_plans.proofs.MadeTables.{faultless}
use Rattle.made_plans.proofs.Planned.{made_refused}
use Rattle.planner_run.specs.declared.status.Status.{Status}
use Rattle.planner_run.specs.declared.status.Status.TheVariants as statuses
use Rattle.planner_run.specs.declared.status.InputFault.{InputFault}
use Rattle.planner_run.specs.declared.status.InputFault.TheVariants as inputs
use Rattle.planner_run.specs.MadeEnds.{HasNoMadeCause}
use Rattle.planner_run.specs.Model.{HasModelFault, IsModelCause}
use Rattle.planner_run.specs.PlanText.{IsPlanCause, IsUnplanned}
use Rattle.planner_run.specs.Trips.{IsDayFault}

module _ (seed trips : ℕ) (few : trips ≤ 3000) where
  no_table_fault : (fault : TableFault) → first_fault (schemas_of needs.All) (made_tables seed trips) ≡ Some fault → ⊥
  no_table_fault fault e = let none : None ≡ Some fault = sym (faultless seed trips few) ∙ e in absurd (cc)

  no_model_fault : (fault : DayModelFault) → HasModelFault (made_tables seed trips) 20260302 fault → ⊥
  no_model_fault fault has = no_day_fault seed trips few 20260302 has.fault_in.kind fault has.fault_in.kind_is has.fault_in.wrong

  no_fault_of_day : (fault : DayFault) → IsDayFault (net_of needs.All (made_tables seed trips)) 20260302 fault → ⊥
  unfolding version_row
  no_fault_of_day days.NoDate wrong = wrong (has_kind seed trips).civil
  no_fault_of_day days.NoVersion wrong =
      let same : ◌≡◌ {A = Option ℕ} None (Some 1) = sym wrong.1 ∙ (has_kind seed trips).version in absurd (cc)
  no_fault_of_day days.NoDay wrong =
      let same : ◌≡◌ {A = Option ℕ} None (Some 1) = sym wrong.1 ∙ (has_kind seed trips).kind_is in absurd (cc)

  no_input : (fault : InputFault) → IsModelCause (made_tables seed trips) 20260302 (statuses.Input fault) → ⊥
  no_input (inputs.Table fault) cause = no_table_fault fault cause
  no_input (inputs.Trips count) cause = no_model_fault _ cause
  no_input (inputs.Params fault) cause = no_model_fault _ cause
  no_input (inputs.Trip fid fault) cause = no_model_fault _ cause
  no_input _ cause = absurd cause

  no_model_cause : (status : Status) → IsModelCause (made_tables seed trips) 20260302 status → ⊥
  no_model_cause (statuses.Input fault) cause = no_input fault cause
  no_model_cause (statuses.Day fault) cause = no_fault_of_day fault cause.1
  no_model_cause _ cause = absurd cause

  planned : (asked : Asked) (status : Status) → IsUnplanned asked (made_tables seed trips) 20260302 status → ⊥
  planned asked status un =
      un.told (made_refused seed trips 20260302 un.facts few (record { kind_is = un.model.model.kind_is; day_is = un.model.model.day_is })
      asked un.fault un.cause)

  no_cause : (asked : Asked) (status : Status) → IsPlanCause asked (made_tables seed trips) 20260302 status → ⊥
  no_cause asked status (inl model) = no_model_cause status model
  no_cause asked status (inr un) = planned asked status un

-- A made day has nothing against it: its tables have no fault (`faultless`), the day has a kind, no first reason stands against it
-- (`no_day_fault`), and a plan of it is refused for running out of memory alone (`made_refused`). These four are all the ways in which
-- tables refuse a command that plans, so a cause would contradict one of them.
pub has_no_made_cause : HasNoMadeCause
has_no_made_cause seed trips asked status few cause = no_cause seed trips few asked status cause
