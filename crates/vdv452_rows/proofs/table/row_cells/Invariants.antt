use Rattle.std.proofs.Common.{◌≡◌, ◌++◌, drop}
use Rattle.vdv452_rows.specs.Found.{found_cells}
use Rattle.vdv452_rows.proofs.table.row_cells.Given as goal

-- what is read and what is left to read are the whole
abbrev pub invariant-loop-entry : goal.invariant-loop-entry
invariant-loop-entry l = l.cells.items ++ found_cells (drop l.entry-index l.found) l.row ≡ found_cells l.found l.row
