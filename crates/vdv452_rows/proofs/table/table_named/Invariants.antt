use Rattle.std.proofs.Common.{◌≡◌, drop}
use Rattle.std.specs.List.{find}
use Rattle.vdv452_rows.specs.Rows.{has_name}
use Rattle.vdv452_rows.proofs.table.table_named.Given as goal

-- no table so far has the name
abbrev pub invariant-loop-table : goal.invariant-loop-table
invariant-loop-table l = find (has_name l.name) (drop l.table-index l.tables) ≡ find (has_name l.name) l.tables
