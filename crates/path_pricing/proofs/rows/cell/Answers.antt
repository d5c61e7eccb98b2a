use Rattle.std.proofs.Common.{pos, rules, slice_index_or, w64}
use Rattle.std.proofs.lemmas.Int.{to_z-of_z}
use Rattle.std.specs.Prelude.{FitsSigned}
use Rattle.path_pricing.proofs.Cells.{number_read}
use Rattle.path_pricing.proofs.rows.cell.Goals as goal

pub returns : goal.returns
returns c =
    let fits : FitsSigned w64 (slice_index_or c.args.cells.now c.args.place (pos 0)) = search rules in
    rw (to_z-of_z w64 _ fits) (number_read c.args.cells.now c.args.place (pos 0) c.requires)
