use Rattle.std.proofs.Common.{◌≡◌, ◌++◌, drop}
use Rattle.std.specs.List.{flat_map}
use Rattle.vdv452_rows.specs.Found.{found_columns}
use Rattle.vdv452_rows.specs.Rows.{missing_column}
use Rattle.vdv452_rows.proofs.table.find_columns.Given as goal

-- what is found and what is left to find are the whole, and none is missing so far
abbrev pub invariant-loop-column : goal.invariant-loop-column
invariant-loop-column l = record {
  found : l.found.items ++ found_columns l.heads (drop l.column-index l.columns) ≡ found_columns l.heads l.columns;
  missing : flat_map (missing_column l.table l.heads) (drop l.column-index l.columns) ≡ flat_map (missing_column l.table l.heads) l.columns;
}
