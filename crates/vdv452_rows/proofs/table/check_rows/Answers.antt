use Rattle.std.proofs.Common.{◌+◌}
use Rattle.std.proofs.lemmas.Result.{err_from_is_err_and}
use Rattle.vdv452_rows.proofs.RowSteps.{drop_read, row_refused, row_step}
use Rattle.vdv452_rows.proofs.table.check_rows.Goals as goal

pub returns-in_err-check_row-clause-wrong : goal.returns-in_err-check_row-clause-wrong
returns-in_err-check_row-clause-wrong c =
    let p = err_from_is_err_and c.from_residual-in_err-check_row.result c.from_residual-in_err-check_row.ensures.1 in
    let row = c.as_slice.result.now in
    let at = drop_read c.args.rows.now c.loop-place.place c.index-rows-place.result row c.loop-place-test.true
    c.index-rows-place.is c.as_slice.ensures in
    rw (p.1, p.2) (row_refused c.args.found.now c.args.rows.now c.loop-place.place row at c.args.table.now c.loop-place.keys
    (c.loop-place.place + 1) _ c.loop-place.invariant _ c.in_err-check_row.ensures.wrong)

pub loop-place-preserved : goal.loop-place-preserved
loop-place-preserved c =
    let row = c.as_slice.result.now in
    let at = drop_read c.args.rows.now c.loop-place.place c.index-rows-place.result row c.loop-place-test.true
    c.index-rows-place.is c.as_slice.ensures in
    row_step c.args.found.now c.args.rows.now c.loop-place.place row at c.args.table.now c.loop-place.keys
    (c.loop-place.place + 1) _ c.loop-place.invariant _ c.in_ok-check_row.ensures.right c.in_ok-check_row.ensures.key
