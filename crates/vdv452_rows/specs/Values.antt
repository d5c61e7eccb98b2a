-- Promise: the values of a row's columns, by their places in the schema, and the place of a column, by its name.
use Rattle.std.specs.Prelude.{ℕ, ◌+◌, List, [], ◌∷◌, Option, Some, None, slice_get, if◌then◌else◌}
use Rattle.std.specs.Str.{bytes_eq}
use Rattle.vdv452_rows.specs.declared.cell.Cell.{Cell}
use Rattle.vdv452_rows.specs.declared.cell.Cell.TheVariants.{Nothing, Number, Long, Word}
use Rattle.vdv452_rows.specs.declared.schema.Column.{Column}
use Rattle.vdv452_rows.specs.declared.schema.Schema.{Schema}

-- where the column of a name stands among columns, counted from 0
abbrev pub place_among : List Column → List ℕ → ℕ
place_among [] name = 0
place_among (column ∷ columns) name = if bytes_eq column.name name then 0 else place_among columns name + 1

-- the place of a schema's column of this name, which is the place of its value in each row of the schema's values
abbrev pub schema_place : Schema → List ℕ → ℕ
schema_place schema name = place_among schema.columns name

-- the value of a number column
abbrev pub number_of : Cell → ℕ
number_of Nothing = 0
number_of (Number n) = n
number_of (Long n) = 0
number_of (Word w) = 0

abbrev pub number_in : Option Cell → ℕ
number_in None = 0
number_in (Some cell) = number_of cell

abbrev pub number_at : List Cell → ℕ → ℕ
number_at row place = number_in (slice_get row place)

-- of a column that may be empty
abbrev pub some_number : Option Cell → Option ℕ
some_number None = None
some_number (Some Nothing) = None
some_number (Some (Number n)) = Some n
some_number (Some (Long n)) = None
some_number (Some (Word w)) = None

abbrev pub some_number_at : List Cell → ℕ → Option ℕ
some_number_at row place = some_number (slice_get row place)

abbrev pub long_in : Option Cell → ℕ
long_in None = 0
long_in (Some Nothing) = 0
long_in (Some (Number n)) = 0
long_in (Some (Long n)) = n
long_in (Some (Word w)) = 0

abbrev pub long_at : List Cell → ℕ → ℕ
long_at row place = long_in (slice_get row place)

abbrev pub word_in : Option Cell → List ℕ
word_in None = []
word_in (Some Nothing) = []
word_in (Some (Number n)) = []
word_in (Some (Long n)) = []
word_in (Some (Word w)) = w

abbrev pub word_at : List Cell → ℕ → List ℕ
word_at row place = word_in (slice_get row place)
