-- From the plan of a day to the answer of the command.
use Rattle.std.proofs.Common.{◌≡◌, ℕ, ◌≤◌, ◌^◌, inl, inr, All, List, Some, None, Result, Ok, Err, IfOk, IfErr, IsTrue, ◌∙◌, ap, subst}
use Rattle.vdv451_text.specs.declared.table.Table.{Table}
use Rattle.vdv451_text.specs.Plain.{are_plain, text}
use Rattle.vdv452_rows.specs.Schema as schema
use Rattle.vdv452_tables.specs.declared.net.Net.{Net}
use Rattle.vdv452_rows.specs.declared.rows.TripRow.{TripRow}
use Rattle.vdv452_tables.specs.declared.reading.Needs.TheVariants as needs
use Rattle.vdv452_tables.specs.Calendar.{net_of, schemas_of}
use Rattle.vdv452_rows.specs.Rows.{first_fault, table_of}
use Rattle.day_model.specs.Building.{IsDayOf}
use Rattle.day_model.specs.Facts.{DayFacts}
use Rattle.day_tables.specs.DayTables.{day_tables_of}
use Rattle.plan_command.specs.declared.fault.PlanFault.{PlanFault}
use Rattle.plan_command.specs.declared.fault.PlanFault.TheVariants as faults
use Rattle.plan_command.specs.Planning.{Asked, IsPlanCauseOver}
use Rattle.plan_command.specs.PlanText.{HasTripRows}
use Rattle.planner_run.specs.declared.status.Status.{Status}
use Rattle.planner_run.specs.DayText.{IsDayText, IsDayTextIn}
use Rattle.planner_run.specs.Model.{IsModelIn, IsModelOf, IsModelRefusalIn, IsModelRefused}
use Rattle.planner_run.specs.PlanText.{IsPlanRefused, plan_status_of}
use Rattle.planner_run.proofs.ModelLemmas.{day_refused}
use Rattle.planner_run.proofs.TripRows.{trip_fids, trip_rows_once}

-- refusals of a plan
pub model_to_plan : (asked : Asked) (tables : List Table) (day : ℕ) (status : Status) → IsModelRefused tables day status →
    IsPlanRefused asked tables day status
model_to_plan asked tables day status (inl memory) = inl memory
model_to_plan asked tables day status (inr cause) = inr (inl cause)

pub unplanned : (asked : Asked) (tables : List Table) (day : ℕ) (facts : DayFacts) (status : Status) → IsModelOf tables day facts →
    (fault : PlanFault) → IsPlanCauseOver facts asked fault → status ≡ plan_status_of fault → IsPlanRefused asked tables day status
unplanned asked tables day facts status model faults.Memory cause is = inl is
unplanned asked tables day facts status model (faults.NoPlan side bound places) cause is =
    inr (inr (record { facts = facts; model = model; fault = faults.NoPlan side bound places; cause = cause; told = λ e. cc; is = is }))
unplanned asked tables day facts status model (faults.NotPlaced side item name partial) cause is =
    inr (inr (record {
      facts = facts;
      model = model;
      fault = faults.NotPlaced side item name partial;
      cause =
          cause;
      told = λ e. cc;
      is = is;
    }))

-- a text of tables that are the ones meant
pub text_of_tables : {E : Type 0} (r : Result (List ℕ) E) (tables meant : List Table) → IfOk r (λ bytes. bytes ≡ text tables) →
    tables ≡ meant → IfOk r (λ bytes. bytes ≡ text meant)
text_of_tables (Ok bytes) tables meant spelled same = spelled ∙ ap text same
text_of_tables (Err e) tables meant spelled same = tt

-- the text of a day, of the tables that tell it
pub day_written : (tables : List Table) (net : Net) (day : ℕ) (r : Result (List ℕ) Status) →
    first_fault (schemas_of needs.All) tables ≡ None → net ≡ net_of needs.All tables → IfOk r (IsDayTextIn net day) →
    IfOk r (IsDayText tables day)
day_written tables net day (Ok bytes) none same written =
    let P : Net → Type 0 = λ n. IsModelIn n day written.facts in
    record {
      facts = written.facts;
      model = record { faultless = none; model = subst P same written.model };
      written =
          written.written ∙ ap (λ n. text (day_tables_of n written.facts)) same;
    }
day_written tables net day (Err status) none same written = tt

pub day_refused_answer : (tables : List Table) (net : Net) (day : ℕ) (r : Result (List ℕ) Status) →
    first_fault (schemas_of needs.All) tables ≡ None → net ≡ net_of needs.All tables → IfErr r (IsModelRefusalIn net day) →
    IfErr r (IsModelRefused tables day)
day_refused_answer tables net day (Ok bytes) none same cause = tt
day_refused_answer tables net day (Err status) none same cause =
    let P : Net → Type 0 = λ n. IsModelRefusalIn n day status in day_refused tables day status none (subst P same cause)

pub model_refusal : (tables : List Table) (net : Net) (day : ℕ) (status : Status) → first_fault (schemas_of needs.All) tables ≡ None →
    net ≡ net_of needs.All tables → IsModelRefusalIn net day status → IsModelRefused tables day status
model_refusal tables net day status none same cause =
    let P : Net → Type 0 = λ n. IsModelRefusalIn n day status in day_refused tables day status none (subst P same cause)

pub model_is : (tables : List Table) (net : Net) (day : ℕ) (facts : DayFacts) → first_fault (schemas_of needs.All) tables ≡ None →
    net ≡ net_of needs.All tables → IsModelIn net day facts → IsModelOf tables day facts
model_is tables net day facts none same model =
    let P : Net → Type 0 = λ n. IsModelIn n day facts in record { faultless = none; model = subst P same model }

-- each trip of the day has one row, and its number is in its range
pub trips_have_rows : (tables : List Table) (net : Net) (facts : DayFacts) (day : ℕ) (table : Table) → IsTrue (are_plain tables) →
    first_fault (schemas_of needs.All) tables ≡ None → net ≡ net_of needs.All tables →
    All (λ (row : TripRow). row.fid ≤ 10 ^ 18) net.trips → table_of schema.trips tables ≡ Some table →
    IsModelIn net day facts → HasTripRows facts table
trips_have_rows tables net facts day table plain none same fids found model =
    let P : Net → Type 0 = λ n. IsDayOf n facts.kind facts in
    let Q : Net → Type 0 = λ n. All (λ (row : TripRow). row.fid ≤ 10 ^ 18) n.trips in
    let day_is = subst P same model.day_is in
    record {
      one = trip_rows_once tables facts table plain none day_is found;
      fids =
          trip_fids (net_of needs.All tables) facts (subst Q same fids) day_is;
    }
