-- Promise: tables of whole numbers as they are read and written: their outlines, the numbers of their rows, and the first place where a
-- table is wrong.
use Rattle.std.specs.Prelude.{ℕ, ℤ, pos, negsuc, zero, suc, ◌+◌, ◌||◌, not, Bool, true, false, nat_lt, nat_le, nat_eq, List, [], ◌∷◌, ◌++◌, length, map, filter, Option, Some, None, option_and_then, is_none, if◌then◌else◌, slice_get}
use Rattle.std.specs.Option.{option_map}
use Rattle.std.specs.List.{list_any, filter_map}
use Rattle.vdv451_text.specs.declared.table.Field.{Field}
use Rattle.vdv451_text.specs.declared.table.Field.TheVariants.{Num}
use Rattle.vdv451_text.specs.declared.table.Head.{Head}
use Rattle.vdv451_text.specs.declared.table.Table.{Table}
use Rattle.vdv452_rows.specs.Cells.{whole_number}
use Rattle.vdv452_rows.specs.Rows.{field_at, has_name, place_of, when, first}
use Rattle.number_tables.specs.Numbers.{table_over}

-- a table by its name and the columns that are read
pub record Outline : Type 0 where
  pub name : List ℕ
  pub columns : List (List ℕ)

-- the number that a row spells at a place
abbrev pub number_at : List Field → ℕ → Option ℤ
number_at row place = option_and_then whole_number (slice_get row place)

-- the number that a row spells in a column
abbrev pub number_in : List Head → List Field → List ℕ → Option ℤ
number_in heads row name = option_and_then whole_number (field_at heads row name)

-- the numbers of a row in these columns, where they are numbers
abbrev pub numbers : List (List ℕ) → Table → List Field → List (Option ℤ)
numbers columns table row = map (λ name. number_in table.columns row name) columns

-- the first table of a name
abbrev pub named : Outline → List Table → Option Table
named o tables = first (filter (has_name o.name) tables)

abbrev pub rows_in : Outline → Option Table → List (List (Option ℤ))
rows_in o None = []
rows_in o (Some table) = map (numbers o.columns table) table.rows

-- the numbers of its rows; none of a table that is absent
abbrev pub rows_of : Outline → List Table → List (List (Option ℤ))
rows_of o tables = rows_in o (named o tables)

-- a place: a table, and a row from 1, or 0 for the table as a whole
abbrev pub Place : Type 0
Place = List ℕ × ℕ

abbrev pub place : List ℕ → ℕ → Place
place table row = (table, row)

abbrev pub lacks_column : List (List ℕ) → Option Table → Bool
lacks_column columns None = false
lacks_column columns (Some table) = list_any (λ name. is_none (place_of name table.columns)) columns

-- a table is missing, stands twice or lacks a column
abbrev pub whole_faults : Outline → List Table → List Place
whole_faults o tables =
    when (not (nat_eq (length (filter (has_name o.name) tables)) 1) || lacks_column o.columns (named o tables)) (place o.name 0)

-- the rows, counted on from this one, that say nothing
abbrev pub entry_faults : {A : Type 0} → List ℕ → ℕ → List (Option A) → List Place
entry_faults table row [] = []
entry_faults table row (None ∷ rest) = place table row ∷ entry_faults table (row + 1) rest
entry_faults table row (Some m ∷ rest) = entry_faults table (row + 1) rest

-- what is there of a list of values
abbrev pub given_of : {A : Type 0} → List (Option A) → List A
given_of os = filter_map (λ o. o) os

-- a number from 1 to a bound, counted from 0
abbrev pub counted : ℕ → Option ℤ → Option ℕ
counted bound None = None
counted bound (Some (pos zero)) = None
counted bound (Some (pos (suc n))) = if nat_lt n bound then Some n else None
counted bound (Some (negsuc n)) = None

-- a number from 0 to a greatest one
abbrev pub up_to : ℕ → Option ℤ → Option ℕ
up_to most None = None
up_to most (Some (pos n)) = if nat_le n most then Some n else None
up_to most (Some (negsuc n)) = None

-- a number of 32 bits
abbrev pub word : Option ℤ → Option ℕ
word z = up_to 4294967295 z

-- where a number stands among others, the first place of several
abbrev pub place_in : List ℕ → ℕ → Option ℕ
place_in [] n = None
place_in (m ∷ ms) n = if nat_eq m n then Some 0 else option_map (λ k. k + 1) (place_in ms n)

-- where a number that is not below 0 stands among others
abbrev pub class_among : List ℕ → Option ℤ → Option ℕ
class_among ms None = None
class_among ms (Some (pos n)) = place_in ms n
class_among ms (Some (negsuc n)) = None

-- a row of numbers, which may be below 0
abbrev pub signed_row : List ℤ → List Field
signed_row zs = map (λ z. Num z) zs

abbrev pub signed_table : Outline → List (List ℤ) → Table
signed_table o rows = table_over o.name o.columns (map signed_row rows)
