use Rattle.std.proofs.Common.{◌≡◌, [], subst, ◌∙◌}
use Rattle.std.proofs.lemmas.Result.{IfErr-weaker, on_ok_weaker}
use Rattle.std.specs.Result.{IfOk}
use Rattle.vdv452_rows.specs.TypedRows.{typed}
use Rattle.vdv452_rows.specs.Rows.{missing_columns, row_faults}
use Rattle.vdv452_rows.proofs.FoundLemmas.{faults_by_name, none_missing, rows_by_name}
use Rattle.vdv452_rows.proofs.Refusals.{refusal_after, refusal_same}
use Rattle.vdv452_rows.proofs.table.read_found.Goals as goal

pub returns-clause-value : goal.returns-clause-value
returns-clause-value g c =
    let rows = rows_by_name c.args.schema.now c.args.table.now c.as_slice-name.result.now c.as_slice.result.now c.as_slice-2.result.now
    c.as_slice-3.result.now c.as_slice-4.result.now c.as_slice-name.ensures c.as_slice.ensures c.as_slice-2.ensures c.as_slice-4.ensures
    (c.as_slice-3.ensures.value ∙ c.in_ok-found.ensures.places) c.in_ok-found.ensures.none in
    subst (λ rs. IfOk c.read_rows.result (λ read. read.items ≡ typed g.R.TypedRow.row_of 0 rs)) rows c.read_rows.ensures.value

pub returns-clause-right : goal.returns-clause-right
returns-clause-right g c =
    let none = none_missing c.args.schema.now c.args.table.now c.as_slice-name.result.now c.as_slice.result.now c.as_slice-2.result.now
    c.as_slice-3.result.now c.as_slice-4.result.now c.as_slice-name.ensures c.as_slice.ensures c.as_slice-2.ensures c.as_slice-4.ensures
    (c.as_slice-3.ensures.value ∙ c.in_ok-found.ensures.places) c.in_ok-found.ensures.none in
    let faults = faults_by_name c.args.schema.now c.args.table.now c.as_slice-name.result.now c.as_slice.result.now c.as_slice-2.result.now
    c.as_slice-3.result.now c.as_slice-4.result.now c.as_slice-name.ensures c.as_slice.ensures c.as_slice-2.ensures c.as_slice-4.ensures
    (c.as_slice-3.ensures.value ∙ c.in_ok-found.ensures.places) c.in_ok-found.ensures.none in
    on_ok_weaker c.read_rows.result (λ right. rw (none, ← faults) right) c.read_rows.ensures.right

pub returns-clause-wrong : goal.returns-clause-wrong
returns-clause-wrong g c =
    let none = none_missing c.args.schema.now c.args.table.now c.as_slice-name.result.now c.as_slice.result.now c.as_slice-2.result.now
    c.as_slice-3.result.now c.as_slice-4.result.now c.as_slice-name.ensures c.as_slice.ensures c.as_slice-2.ensures c.as_slice-4.ensures
    (c.as_slice-3.ensures.value ∙ c.in_ok-found.ensures.places) c.in_ok-found.ensures.none in
    let faults = faults_by_name c.args.schema.now c.args.table.now c.as_slice-name.result.now c.as_slice.result.now c.as_slice-2.result.now
    c.as_slice-3.result.now c.as_slice-4.result.now c.as_slice-name.ensures c.as_slice.ensures c.as_slice-2.ensures c.as_slice-4.ensures
    (c.as_slice-3.ensures.value ∙ c.in_ok-found.ensures.places) c.in_ok-found.ensures.none in
    IfErr-weaker c.read_rows.result _ _ (λ refusal wrong. refusal_after (missing_columns c.args.schema.now c.args.table.now)
    (row_faults c.args.schema.now c.args.table.now [] 1 c.args.table.now.rows) refusal none (refusal_same _ _ refusal faults wrong))
    c.read_rows.ensures.wrong
