-- Promise: the tables of several files, one file after another.
use Rattle.std.specs.Prelude.{List}
use Rattle.std.specs.List.{flat_map}
use Rattle.vdv451_text.specs.declared.table.Table.{Table}

-- the tables of all files in one list, in the order of the files
abbrev pub joined : List (List Table) → List Table
joined parts = flat_map (λ tables. tables) parts
