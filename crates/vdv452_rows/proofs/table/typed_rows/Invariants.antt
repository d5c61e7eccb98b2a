use Rattle.std.proofs.Common.{◌≡◌, ◌++◌, drop, map, vec_len}
use Rattle.vdv452_rows.specs.TypedRows.{typed}
use Rattle.vdv452_rows.specs.Found.{found_cells}
use Rattle.vdv452_rows.proofs.table.typed_rows.Given as goal

-- what is made and what is left to make are the whole
abbrev pub invariant-loop-place : goal.invariant-loop-place
invariant-loop-place g l = record {
  made : l.made.items ++ typed g.R.TypedRow.row_of l.place (map (found_cells l.found) (drop l.place l.rows))
      ≡ typed g.R.TypedRow.row_of 0 (map (found_cells l.found) l.rows);
  count : vec_len l.made ≡ l.place;
}
