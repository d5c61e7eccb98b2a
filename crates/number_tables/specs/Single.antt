-- Promise: a table that stands once among others.
use Rattle.std.specs.Prelude.{ℕ, ◌==◌, List, Option, None, count_by, find, if◌then◌else◌}
use Rattle.vdv451_text.specs.declared.table.Table.{Table}
use Rattle.vdv452_rows.specs.Rows.{has_name}

-- the table of a name, where it stands once
abbrev pub single_in : List ℕ → List Table → Option Table
single_in name tables = if count_by (has_name name) tables == 1 then find (has_name name) tables else None
