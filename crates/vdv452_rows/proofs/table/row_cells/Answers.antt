use Rattle.vdv452_rows.proofs.RowSteps.{cells_step, drop_item}
use Rattle.vdv452_rows.proofs.table.row_cells.Goals as goal

pub loop-entry-preserved : goal.loop-entry-preserved
loop-entry-preserved c =
    let at = drop_item c.args.found.now c.loop-entry.entry-index c.entry-item.result c.loop-entry-test.true c.entry-item.is in
    let is = rw c.field_at-field.ensures at c.in_ok-right_cell.ensures in
    rw c.in_ok-push.ensures.items
    (cells_step c.args.row.now c.args.found.now c.loop-entry.entry-index c.entry-item.result at c.loop-entry.cells.items _ _ is
    c.loop-entry.invariant)
