use Rattle.std.proofs.Common.{◌+◌, drop}
use Rattle.vdv452_tables.specs.LookUps.{points_of}
use Rattle.vdv452_tables.proofs.CourseLemmas.{grouped}
use Rattle.vdv452_rows.proofs.RowSteps.{drop_item}
use Rattle.vdv452_tables.proofs.course.grouped_stops.Goals as goal

pub loop-row-preserved : goal.loop-row-preserved
loop-row-preserved c =
    let rows = c.args.rows.now in
    let at = drop_item rows c.loop-row.row-index c.row-item.result c.loop-row-test.true c.row-item.is in
    grouped c.loop-row.courses c.add_stop.new.courses c.row-item.result (drop c.loop-row.row-index rows)
    (drop (c.loop-row.row-index + 1) rows) (λ key. points_of key rows) at c.in_ok-add_stop.ensures c.loop-row.invariant
