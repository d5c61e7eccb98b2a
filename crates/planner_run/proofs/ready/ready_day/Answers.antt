use Rattle.std.proofs.Common.{◌≡◌, None, List, subst}
use Rattle.vdv451_text.specs.declared.table.Table.{Table}
use Rattle.vdv452_rows.specs.Rows.{first_fault}
use Rattle.vdv452_tables.specs.declared.reading.Needs.TheVariants as needs
use Rattle.vdv452_tables.specs.Calendar.{net_of, schemas_of}
use Rattle.planner_run.specs.Model.{IsTableRefusal}
use Rattle.planner_run.proofs.ModelLemmas.{tables_refused}
use Rattle.planner_run.proofs.ReadyLemmas.{ready_cause, ready_found, ready_model, ready_plain, ready_rows}
use Rattle.planner_run.proofs.ready.ready_day.Goals as goal

-- no table has a fault
abbrev IsFaultless : List Table → Type 0
IsFaultless tables = first_fault (schemas_of needs.All) tables ≡ None

pub trips_table-requires : goal.trips_table-requires
trips_table-requires c = subst IsFaultless c.as_slice.ensures c.in-Ok.ensures.faultless

pub returns-in-Ok-clause-model : goal.returns-in-Ok-clause-model
returns-in-Ok-clause-model c =
    ready_model c.args.tables c.in-Ok.net c.args.day (subst IsFaultless c.as_slice.ensures c.in-Ok.ensures.faultless)
    (subst (λ ts. c.in-Ok.net ≡ net_of needs.All ts) c.as_slice.ensures c.in-Ok.ensures.net) c.ready_in.result c.ready_in.ensures.model

pub returns-in-Ok-clause-found : goal.returns-in-Ok-clause-found
returns-in-Ok-clause-found c =
    ready_found c.args.tables c.trips_table.result c.ready_in.result c.trips_table.ensures c.ready_in.ensures.same

pub returns-in-Ok-clause-plain : goal.returns-in-Ok-clause-plain
returns-in-Ok-clause-plain c =
    ready_plain c.args.tables c.ready_in.result c.requires.plain
    (ready_found c.args.tables c.trips_table.result c.ready_in.result c.trips_table.ensures c.ready_in.ensures.same)

pub returns-in-Ok-clause-rows : goal.returns-in-Ok-clause-rows
returns-in-Ok-clause-rows c =
    ready_rows c.args.tables c.in-Ok.net c.args.day (subst IsFaultless c.as_slice.ensures c.in-Ok.ensures.faultless)
    (subst (λ ts. c.in-Ok.net ≡ net_of needs.All ts) c.as_slice.ensures c.in-Ok.ensures.net) c.ready_in.result c.requires.plain
    (rw c.trip_rows.ensures.rows at c.trip_rows.ensures.fids) c.ready_in.ensures.model
    (ready_found c.args.tables c.trips_table.result c.ready_in.result c.trips_table.ensures c.ready_in.ensures.same)

pub returns-in-Ok-clause-cause : goal.returns-in-Ok-clause-cause
returns-in-Ok-clause-cause c =
    ready_cause c.args.tables c.in-Ok.net c.args.day (subst IsFaultless c.as_slice.ensures c.in-Ok.ensures.faultless)
    (subst (λ ts. c.in-Ok.net ≡ net_of needs.All ts) c.as_slice.ensures c.in-Ok.ensures.net) c.ready_in.result c.ready_in.ensures.cause

pub returns-in-Err-clause-cause : goal.returns-in-Err-clause-cause
returns-in-Err-clause-cause c =
    let P : List Table → Type 0 = λ ts. IsTableRefusal needs.All ts c.in-Err.status in
    tables_refused c.args.tables c.args.day c.in-Err.status (subst P c.as_slice.ensures c.in-Err.ensures.cause)
