use Rattle.std.proofs.Common.{rules, w64}
use Rattle.std.proofs.lemmas.Int.{to_z-of_z}
use Rattle.std.specs.Prelude.{FitsSigned}
use Rattle.path_pricing.proofs.Cells.{row_added}
use Rattle.path_pricing.proofs.rows.add_row.Goals as goal

pub returns : goal.returns
returns c =
    let fits : FitsSigned w64 c.args.value = search rules in
    let vz = to_z-of_z w64 c.args.value fits in
    row_added c.args.cells.now.items c.copy_row.new.cells.items c.lower_at.new.cells.items c.args.base c.args.width c.args.number
    c.args.value c.requires.number c.copy_row.ensures
    (rw vz at c.lower_at.ensures)
