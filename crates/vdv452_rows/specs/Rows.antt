-- Promise: rows as maps from names to values, and the first fault of the tables.
use Rattle.std.specs.Prelude.{◌≡◌, ℕ, ◌+◌, AllPairs, Bool, true, false, not, nat_lt, List, [], ◌∷◌, ◌++◌, length, map, filter, Option, Some, None, if◌then◌else◌, is_none, unwrap_or, slice_get}
use Rattle.std.specs.Option.{option_map, option_and_then}
use Rattle.std.specs.List.{list_any, find, flat_map}
use Rattle.std.specs.Str.{bytes_eq}
use Rattle.vdv451_text.specs.declared.table.Field.{Field}
use Rattle.vdv451_text.specs.declared.table.Head.{Head}
use Rattle.vdv451_text.specs.declared.table.Table.{Table}
use Rattle.vdv452_rows.specs.declared.cell.Cell.{Cell}
use Rattle.vdv452_rows.specs.declared.cell.Cell.TheVariants.{Nothing}
use Rattle.vdv452_rows.specs.declared.fault.TableKind.{TableKind}
use Rattle.vdv452_rows.specs.declared.fault.TableKind.TheVariants as kinds
use Rattle.vdv452_rows.specs.declared.fault.TableFault.{TableFault}
use Rattle.vdv452_rows.specs.declared.schema.Column.{Column}
use Rattle.vdv452_rows.specs.declared.schema.Schema.{Schema}
use Rattle.vdv452_rows.specs.Cells.{cell_of, is_empty_field, same_cells}

-- where the first column of a name stands
abbrev pub place_of : List ℕ → List Head → Option ℕ
place_of name [] = None
place_of name (head ∷ heads) = if bytes_eq head.name name then Some 0 else option_map (λ place. place + 1) (place_of name heads)

-- A row is a map from names to values. Of two columns with one name the first counts.
abbrev pub field_at : List Head → List Field → List ℕ → Option Field
field_at heads row name = option_and_then (slice_get row) (place_of name heads)

-- the value of a field that is there and right, else nothing
abbrev pub cell_in : Column → Option Field → Cell
cell_in column field = unwrap_or (option_and_then (cell_of column) field) Nothing

abbrev pub cell_at : Table → List Field → Column → Cell
cell_at table row column = cell_in column (field_at table.columns row column.name)

-- a row's values in the schema's columns
abbrev pub cells : Schema → Table → List Field → List Cell
cells s table row = map (cell_at table row) s.columns

-- the values of a row's key
abbrev pub key_of : Schema → Table → List Field → List Cell
key_of s table row = map (cell_at table row) (filter (λ column. column.is_key) s.columns)

abbrev pub has_name : List ℕ → Table → Bool
has_name name table = bytes_eq table.name name

-- the first table of that name
abbrev pub table_of : Schema → List Table → Option Table
table_of s tables = find (has_name s.name) tables

-- the rows of a table, none for one that is absent
abbrev pub rows_in : Schema → Option Table → List (List Cell)
rows_in s None = []
rows_in s (Some table) = map (cells s table) table.rows

abbrev pub rows_of : Schema → List Table → List (List Cell)
rows_of s tables = rows_in s (table_of s tables)

-- the key of a row, where its table has a key
abbrev pub own_key : List Cell → List (List Cell)
own_key [] = []
own_key (cell ∷ cells) = (cell ∷ cells) ∷ []

-- the keys of a table's rows; none of a table without a key
abbrev pub keys_in : Schema → Option Table → List (List Cell)
keys_in s None = []
keys_in s (Some table) = flat_map (λ row. own_key (key_of s table row)) table.rows

-- no two rows of a table have one key
abbrev pub HasOwnKeys : List Table → Schema → Type 0
HasOwnKeys tables s = AllPairs (λ earlier later. same_cells later earlier ≡ false) (keys_in s (table_of s tables))

-- The faults, in their order.
abbrev pub fault : TableKind → List ℕ → List ℕ → ℕ → TableFault
fault kind table column row = record { kind = kind; table = table; column = column; row = row }

abbrev pub when : {A : Type 0} → Bool → A → List A
when true x = x ∷ []
when false x = []

-- a column of the schema that must be there, and that no column of the table has the name of
abbrev pub missing_column : List ℕ → List Head → Column → List TableFault
missing_column table heads column =
    if column.may_be_missing then [] else when (is_none (place_of column.name heads)) (fault kinds.NoColumn table column.name 0)

abbrev pub missing_columns : Schema → Table → List TableFault
missing_columns s table = flat_map (missing_column s.name table.columns) s.columns

-- an empty field is a missing value, another wrong one is out of range
abbrev pub field_fault : List ℕ → ℕ → Column → Field → List TableFault
field_fault table row column field =
    when (is_none (cell_of column field)) (fault (if is_empty_field field then kinds.NoValue else kinds.Range) table column.name row)

abbrev pub cell_fault : List ℕ → ℕ → Column → Option Field → List TableFault
cell_fault table row column field = unwrap_or (option_map (field_fault table row column) field) []

abbrev pub cell_faults : Schema → Table → ℕ → List Field → List TableFault
cell_faults s table place row = flat_map (λ column. cell_fault s.name place column (field_at table.columns row column.name)) s.columns

-- one of the keys before is this key; a row without a key has none twice
abbrev pub is_twice : List (List Cell) → List Cell → Bool
is_twice before [] = false
is_twice before (cell ∷ cells) = list_any (same_cells (cell ∷ cells)) before

-- a row whose key a row before has
abbrev pub key_fault : List ℕ → ℕ → List (List Cell) → List Cell → List TableFault
key_fault table place before key = when (is_twice before key) (fault kinds.KeyTwice table [] place)

-- of a row first the values, then the key; `before` are the keys of the rows before
abbrev pub row_fault : Schema → Table → List (List Cell) → ℕ → List Field → List TableFault
row_fault s table before place row = cell_faults s table place row ++ key_fault s.name place before (key_of s table row)

-- row by row, counted from `place`
abbrev pub row_faults : Schema → Table → List (List Cell) → ℕ → List (List Field) → List TableFault
row_faults s table before place [] = []
row_faults s table before place (row ∷ rows) =
    row_fault s table before place row ++ row_faults s table (before ++ own_key (key_of s table row)) (place + 1) rows

-- A table that must be there is there, it has all columns that must be there, and its rows are right.
abbrev pub faults_in : Schema → Option Table → List TableFault
faults_in s None = when (not s.is_optional) (fault kinds.NoTable s.name [] 0)
faults_in s (Some table) = missing_columns s table ++ row_faults s table [] 1 table.rows

-- a used table stands once over all files
abbrev pub table_faults : Schema → List Table → List TableFault
table_faults s tables =
    when (nat_lt 1 (length (filter (has_name s.name) tables))) (fault kinds.TableTwice s.name [] 0) ++ faults_in s (table_of s tables)

-- all faults, table by table
abbrev pub faults_of : List Schema → List Table → List TableFault
faults_of schemas tables = flat_map (λ s. table_faults s tables) schemas

abbrev pub first : {A : Type 0} → List A → Option A
first [] = None
first (x ∷ xs) = Some x

abbrev pub first_fault : List Schema → List Table → Option TableFault
first_fault schemas tables = first (faults_of schemas tables)

-- running out of memory, which names no table
abbrev pub memory_fault : TableFault
memory_fault = fault kinds.Memory [] [] 0
