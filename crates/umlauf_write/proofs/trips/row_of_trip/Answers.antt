use Rattle.std.proofs.Common.{◌∙◌, sym, ap, rules, []}
use Rattle.umlauf_write.specs.Trips.{is_row_of}
use Rattle.umlauf_write.proofs.FoundRows.{found_here}
use Rattle.umlauf_write.proofs.trips.row_of_trip.Goals as goal

pub returns-then-is_row_of : goal.returns-then-is_row_of
returns-then-is_row_of c =
    let test = is_row_of c.args.heads.now c.args.version c.args.fid in
    c.as_slice-then-is_row_of.ensures
    ∙ found_here test c.args.rows.now c.loop-row.row-index c.row-item.result [] (search rules) c.row-item.is
    (ap test (sym c.as_slice.ensures) ∙ sym c.is_row_of.ensures ∙ c.if-is_row_of.true) c.loop-row.invariant.first
