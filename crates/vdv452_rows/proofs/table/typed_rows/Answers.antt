use Rattle.std.proofs.Common.{◌≡◌, [], ◌∷◌, ◌++◌, ap, ◌∙◌, arith}
use Rattle.vdv452_rows.specs.Found.{found_cells}
use Rattle.vdv452_rows.proofs.RowSteps.{drop_read, typed_step}
use Rattle.vdv452_rows.proofs.table.typed_rows.Goals as goal

pub loop-place-preserved : goal.loop-place-preserved
loop-place-preserved g c =
    let row = c.as_slice.result.now in
    let at = drop_read c.args.rows.now c.loop-place.place c.index-rows-place.result row c.loop-place-test.true
    c.index-rows-place.is c.as_slice.ensures in
    let pushed : c.push.new.self.items ≡ c.loop-place.made.items ++ c.in_ok-from_cells.field-0 ∷ [] = c.in_ok-push.ensures.items in
    let cells : c.as_slice-in-loop-place.result.now ≡ c.in_ok-cells.cells = c.as_slice-in-loop-place.ensures in
    let read : c.in_ok-cells.cells ≡ found_cells c.args.found.now row = c.in_ok-cells.ensures in
    let is : c.in_ok-from_cells.field-0 ≡ g.R.TypedRow.row_of (found_cells c.args.found.now row) c.loop-place.place =
    c.in_ok-from_cells.ensures ∙ ap (λ cs. g.R.TypedRow.row_of cs c.loop-place.place) (cells ∙ read) in
    record {
      made = rw pushed (typed_step c.args.found.now c.args.rows.now c.loop-place.place row at g.R.TypedRow.row_of
          c.loop-place.made.items _ c.in_ok-from_cells.field-0 is c.loop-place.invariant.made);
      count = omega (arith, c.in_ok-push.ensures.len);
    }
