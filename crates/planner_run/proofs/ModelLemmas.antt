-- Refusals of the tables and of the day in other words.
use Rattle.std.proofs.Common.{◌≡◌, ◌≢◌, ℕ, inl, inr, List, Some, None, refl, sym, subst}
use Rattle.vdv451_text.specs.declared.table.Table.{Table}
use Rattle.vdv452_rows.specs.declared.fault.TableFault.{TableFault}
use Rattle.vdv452_rows.specs.declared.fault.TableKind.{TableKind}
use Rattle.vdv452_rows.specs.declared.fault.TableKind.TheVariants as kinds
use Rattle.vdv452_tables.specs.declared.reading.Needs.{Needs}
use Rattle.vdv452_tables.specs.declared.reading.Needs.TheVariants as needs
use Rattle.vdv452_tables.specs.declared.net.Net.{Net}
use Rattle.vdv452_tables.specs.Calendar.{net_of, schemas_of}
use Rattle.vdv452_rows.specs.Rows.{first_fault}
use Rattle.day_calendar.specs.declared.day.DayKind.{DayKind}
use Rattle.day_calendar.specs.Kinds.{IsKindOf}
use Rattle.day_model.specs.declared.fault.DayModelFault.{DayModelFault}
use Rattle.day_model.specs.declared.fault.DayModelFault.TheVariants as models
use Rattle.day_model.specs.Building.{HasDayCause}
use Rattle.planner_run.specs.declared.status.Status.{Status}
use Rattle.planner_run.specs.Model.{HasModelFaultIn, IsModelCause, IsModelRefusalIn, IsModelRefused, IsTableRefusal, model_status}
use Rattle.planner_run.specs.Trips.{refused_tables, table_status_of}

-- The status of a fault is a function of its kind, and running out of memory is one of the kinds. So by kinds: either the status is
-- that of memory, which needs no cause, or the fault is the first one of the tables, as reading them promises of every other kind.
pub refused_by : (needed : Needs) (tables : List Table) (fault : TableFault) →
    (fault.kind ≢ kinds.Memory → first_fault (schemas_of needed) tables ≡ Some fault) → IsTableRefusal needed tables (refused_tables fault)
refused_by needed tables fault first_is = by_kind fault.kind first_is
  where
    by_kind : (kind : TableKind) → (kind ≢ kinds.Memory → first_fault (schemas_of needed) tables ≡ Some fault) →
        IsTableRefusal needed tables (table_status_of fault kind)
    by_kind kinds.Memory is = inl refl
    by_kind kinds.TableTwice is = inr (fault, is (λ e. cc), refl)
    by_kind kinds.NoTable is = inr (fault, is (λ e. cc), refl)
    by_kind kinds.NoColumn is = inr (fault, is (λ e. cc), refl)
    by_kind kinds.NoValue is = inr (fault, is (λ e. cc), refl)
    by_kind kinds.Range is = inr (fault, is (λ e. cc), refl)
    by_kind kinds.KeyTwice is = inr (fault, is (λ e. cc), refl)

-- a refusal of all tables
pub tables_refused : (tables : List Table) (day : ℕ) (status : Status) → IsTableRefusal needs.All tables status →
    IsModelRefused tables day status
tables_refused tables day status (inl memory) = inl memory
tables_refused tables day status (inr (fault, is, same)) = inr (let P : Status → Type 0 = IsModelCause tables day in subst P (sym same) is)

-- the cause of the first reason against a day
pub model_cause : (net : Net) (day : ℕ) (kind : DayKind) (fault : DayModelFault) → IsKindOf net day kind → HasDayCause net kind fault →
    IsModelRefusalIn net day (model_status fault)
model_cause net day kind models.Memory is cause = inl refl
model_cause net day kind (models.TooManyTrips count) is cause =
    inr (inr (models.TooManyTrips count, record { kind = kind; kind_is = is; wrong = cause }, refl))
model_cause net day kind (models.Params fault) is cause =
    inr (inr (models.Params fault, record { kind = kind; kind_is = is; wrong = cause }, refl))
model_cause net day kind (models.Trip fid fault) is cause =
    inr (inr (models.Trip fid fault, record { kind = kind; kind_is = is; wrong = cause }, refl))

-- a fault of the tables' day
fault_cause : (tables : List Table) (day : ℕ) (fault : DayModelFault) → first_fault (schemas_of needs.All) tables ≡ None →
    HasModelFaultIn (net_of needs.All tables) day fault → IsModelRefused tables day (model_status fault)
fault_cause tables day models.Memory none wrong = inl refl
fault_cause tables day (models.TooManyTrips count) none wrong = inr (record { faultless = none; fault_in = wrong })
fault_cause tables day (models.Params fault) none wrong = inr (record { faultless = none; fault_in = wrong })
fault_cause tables day (models.Trip fid fault) none wrong = inr (record { faultless = none; fault_in = wrong })

-- a refusal of the day in the network of all tables
pub day_refused : (tables : List Table) (day : ℕ) (status : Status) → first_fault (schemas_of needs.All) tables ≡ None →
    IsModelRefusalIn (net_of needs.All tables) day status → IsModelRefused tables day status
day_refused tables day status none (inl memory) = inl memory
day_refused tables day status none (inr (inl (fault, same, wrong))) =
    inr (let P : Status → Type 0 = IsModelCause tables day in subst P (sym same) (none, wrong))
day_refused tables day status none (inr (inr (fault, wrong, same))) =
    let P : Status → Type 0 = IsModelRefused tables day in subst P (sym same) (fault_cause tables day fault none wrong)
