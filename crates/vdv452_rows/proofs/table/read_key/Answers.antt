use Rattle.std.proofs.lemmas.Result.{err_from_is_err_and}
use Rattle.vdv452_rows.proofs.RowSteps.{cell_refused, drop_item, faults_step, kept_step}
use Rattle.vdv452_rows.proofs.table.read_key.Goals as goal

pub returns-in_err-cell-clause-wrong : goal.returns-in_err-cell-clause-wrong
returns-in_err-cell-clause-wrong c =
    let p = err_from_is_err_and c.from_residual-in_err-cell.result c.from_residual-in_err-cell.ensures.1 in
    let at = drop_item c.args.found.now c.loop-entry.entry-index c.entry-item.result c.loop-entry-test.true c.entry-item.is in
    let given = rw c.field_at-field.ensures at c.in_err-cell.ensures.wrong in
    rw (p.1, p.2) (cell_refused c.args.row.now c.args.found.now c.loop-entry.entry-index c.entry-item.result at c.args.table.now
    c.args.number _ c.loop-entry.invariant.wrong _ given)

pub loop-entry-preserved : goal.loop-entry-preserved
loop-entry-preserved c =
    let at = drop_item c.args.found.now c.loop-entry.entry-index c.entry-item.result c.loop-entry-test.true c.entry-item.is in
    let is = rw c.field_at-field.ensures at c.in_ok-cell.ensures.value in
    let right = rw c.field_at-field.ensures at c.in_ok-cell.ensures.right in
    record {
      key = rw c.in_ok-keep_in_key.ensures
          (kept_step c.args.row.now c.args.found.now c.loop-entry.entry-index c.entry-item.result at c.loop-entry.key.items _ _ is
          c.loop-entry.invariant.key);
      wrong = faults_step c.args.row.now c.args.found.now c.loop-entry.entry-index c.entry-item.result at c.args.table.now
          c.args.number _ c.loop-entry.invariant.wrong right;
    }
