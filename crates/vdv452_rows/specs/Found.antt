-- Inner: the columns of a schema with their places in a table.
use Rattle.std.specs.Prelude.{ℕ, ◌+◌, List, [], ◌∷◌, ◌++◌, map, filter, Option, slice_get}
use Rattle.std.specs.Option.{option_and_then}
use Rattle.vdv451_text.specs.declared.table.Field.{Field}
use Rattle.vdv451_text.specs.declared.table.Head.{Head}
use Rattle.vdv452_rows.specs.declared.cell.Cell.{Cell}
use Rattle.vdv452_rows.specs.declared.fault.TableFault.{TableFault}
use Rattle.vdv452_rows.specs.declared.schema.Column.{Column}
use Rattle.vdv452_rows.specs.declared.table.Found.{Found}
use Rattle.vdv452_rows.specs.Rows.{place_of, cell_in, cell_fault, key_fault, own_key}

-- each column with its place in the table, if the table has it
abbrev pub found_column : List Head → Column → Found
found_column heads column = record { column = column; place = place_of column.name heads }

abbrev pub found_columns : List Head → List Column → List Found
found_columns heads = map (found_column heads)

abbrev pub found_field : List Field → Found → Option Field
found_field row found = option_and_then (slice_get row) found.place

abbrev pub found_cell : List Field → Found → Cell
found_cell row found = cell_in found.column (found_field row found)

-- a row's values in the columns
abbrev pub found_cells : List Found → List Field → List Cell
found_cells found row = map (found_cell row) found

abbrev pub found_key : List Found → List Field → List Cell
found_key found row = map (found_cell row) (filter (λ (f : Found). f.column.is_key) found)

abbrev pub found_faults : List ℕ → ℕ → List Field → List Found → List TableFault
found_faults table place row [] = []
found_faults table place row (f ∷ found) = cell_fault table place f.column (found_field row f) ++ found_faults table place row found

-- of a row first the values, then the key
abbrev pub found_row_fault : List ℕ → List Found → List (List Cell) → ℕ → List Field → List TableFault
found_row_fault table found before place row = found_faults table place row found ++ key_fault table place before (found_key found row)

abbrev pub found_row_faults : List ℕ → List Found → List (List Cell) → ℕ → List (List Field) → List TableFault
found_row_faults table found before place [] = []
found_row_faults table found before place (row ∷ rows) =
    found_row_fault table found before place row ++ found_row_faults table found (before ++ own_key (found_key found row)) (place + 1) rows
