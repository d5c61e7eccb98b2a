-- A day that was built in the network of tables, beside the table of its trips, is the day of these tables.
use Rattle.std.proofs.Common.{◌≡◌, ◌≤◌, ◌^◌, ℕ, All, List, Some, None, Result, Ok, Err, IfOk, IfErr, IsTrue, ap, ◌∙◌, sym}
use Rattle.vdv451_text.specs.declared.table.Table.{Table}
use Rattle.vdv451_text.specs.Plain.{are_plain, is_plain_table}
use Rattle.vdv452_rows.specs.Schema as schema
use Rattle.vdv452_rows.specs.declared.rows.TripRow.{TripRow}
use Rattle.vdv452_rows.specs.Rows.{first_fault, table_of}
use Rattle.vdv452_tables.specs.declared.net.Net.{Net}
use Rattle.vdv452_tables.specs.declared.reading.Needs.TheVariants as needs
use Rattle.vdv452_tables.specs.Calendar.{net_of, schemas_of}
use Rattle.plan_command.specs.PlanText.{HasTripRows}
use Rattle.planner_run.specs.declared.ready.Ready.{Ready}
use Rattle.planner_run.specs.declared.status.Status.{Status}
use Rattle.planner_run.specs.Model.{IsModelIn, IsModelOf, IsModelRefusalIn, IsModelRefused}
use Rattle.planner_run.proofs.PlanLemmas.{model_is, model_refusal, trips_have_rows}
use Rattle.planner_run.proofs.TripRows.{found_plain}

-- the table of the trips that stands beside the day is that of the tables, and so it is as plain as they are
module _ (tables : List Table) where
  pub ready_found : (table : Table) (result : Result Ready Status) → table_of schema.trips tables ≡ Some table →
      IfOk result (λ ready. ready.rec_frt ≡ table) → IfOk result (λ ready. table_of schema.trips tables ≡ Some ready.rec_frt)
  ready_found table (Ok ready) found kept = found ∙ ap (λ t. Some t) (sym kept)
  ready_found table (Err status) found kept = tt

  pub ready_plain : (result : Result Ready Status) → IsTrue (are_plain tables) →
      IfOk result (λ ready. table_of schema.trips tables ≡ Some ready.rec_frt) → IfOk result (λ ready. IsTrue (is_plain_table ready.rec_frt))
  ready_plain (Ok ready) plain found = found_plain schema.trips.name tables ready.rec_frt found plain
  ready_plain (Err status) plain found = tt

-- The network is what the tables tell, where they have no fault; so the day in it, or why there is none, is that of the tables.
module _ (tables : List Table) (net : Net) (day : ℕ) (none : first_fault (schemas_of needs.All) tables ≡ None)
    (same : net ≡ net_of needs.All tables) where
  pub ready_model : (result : Result Ready Status) → IfOk result (λ ready. IsModelIn net day ready.model) →
      IfOk result (λ ready. IsModelOf tables day ready.model)
  ready_model (Ok ready) is = model_is tables net day ready.model none same is
  ready_model (Err status) is = tt

  pub ready_rows : (result : Result Ready Status) → IsTrue (are_plain tables) → All (λ (row : TripRow). row.fid ≤ 10 ^ 18) net.trips →
      IfOk result (λ ready. IsModelIn net day ready.model) →
      IfOk result (λ ready. table_of schema.trips tables ≡ Some ready.rec_frt) → IfOk result (λ ready. HasTripRows ready.model ready.rec_frt)
  ready_rows (Ok ready) plain fids is found = trips_have_rows tables net ready.model day ready.rec_frt plain none same fids found is
  ready_rows (Err status) plain fids is found = tt

  pub ready_cause : (result : Result Ready Status) → IfErr result (IsModelRefusalIn net day) → IfErr result (IsModelRefused tables day)
  ready_cause (Ok ready) cause = tt
  ready_cause (Err status) cause = model_refusal tables net day status none same cause
