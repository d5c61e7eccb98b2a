use Rattle.std.proofs.Common.{◌∙◌, sym, ap}
use Rattle.umlauf_write.specs.Trips.{is_row_of}
use Rattle.umlauf_write.proofs.FoundPlain.{row_told}
use Rattle.umlauf_write.proofs.trips.row_of.Goals as goal

pub returns-then-is_row_of : goal.returns-then-is_row_of
returns-then-is_row_of c =
    let at = c.in-Some.ensures.lookup in
    let passes = ap (is_row_of c.as_slice-heads.result.now c.args.version c.args.fid) (sym c.as_slice.ensures) ∙ sym c.is_row_of.ensures
    ∙ c.if-is_row_of.true in
    c.as_slice-then-is_row_of.ensures
    ∙ row_told c.args.table.now c.as_slice-heads.result.now c.as_slice-rows.result.now c.args.told c.args.version c.args.fid
    c.in-Some.row.now c.as_slice-heads.ensures c.as_slice-rows.ensures at.3.0 (at.3.1 c.in-Some.row.now) passes c.requires.one
