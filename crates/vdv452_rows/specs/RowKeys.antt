-- Inner: keys of rows in little room.
use Rattle.std.specs.Prelude.{◌≡◌, Bool, true, false, ◌==◌, ◌&&◌, ℕ, nat_le, List, [], ◌∷◌, length, map, Option, Some, None, if◌then◌else◌, slice_get}
use Rattle.std.specs.Option.{option_map}
use Rattle.vdv452_rows.specs.declared.cell.Cell.{Cell}
use Rattle.vdv452_rows.specs.declared.cell.Cell.TheVariants.{Nothing, Number, Long, Word}
use Rattle.vdv452_rows.specs.declared.row_key.RowKey.{RowKey}
use Rattle.vdv452_rows.specs.declared.row_key.RowKey.TheVariants.{Numbers, Trip, Cells}
use Rattle.vdv452_rows.specs.Values.{long_at, number_at}

-- the numbers of cells that are numbers of 32 bits alone
abbrev pub numbers_of : List Cell → Option (List ℕ)
numbers_of [] = Some []
numbers_of (Number n ∷ cells) = option_map (λ ns. n ∷ ns) (numbers_of cells)
numbers_of (Nothing ∷ cells) = None
numbers_of (Long n ∷ cells) = None
numbers_of (Word w ∷ cells) = None

abbrev pub is_number : Cell → Bool
is_number Nothing = false
is_number (Number n) = true
is_number (Long n) = false
is_number (Word w) = false

abbrev pub is_long : Cell → Bool
is_long Nothing = false
is_long (Number n) = false
is_long (Long n) = true
is_long (Word w) = false

abbrev pub has : (Cell → Bool) → Option Cell → Bool
has test None = false
has test (Some cell) = test cell

-- the key of a trip: a version and a number of 64 bits
abbrev pub is_trip : List Cell → Bool
is_trip cells = (length cells == 2) && (has is_number (slice_get cells 0) && has is_long (slice_get cells 1))

abbrev pub key_of_numbers : Option (List ℕ) → List Cell → RowKey
key_of_numbers (Some numbers) cells = Numbers (record { items = numbers })
key_of_numbers None cells = Cells cells

-- a key of at most seven numbers, and that of a trip, takes little room
abbrev pub short : List Cell → RowKey
short cells =
    if is_trip cells then Trip (number_at cells 0) (long_at cells 1)
    else (if nat_le (length cells) 7 then key_of_numbers (numbers_of cells) cells else Cells cells)

-- the cells of a key
abbrev pub cells_of : RowKey → List Cell
cells_of (Numbers v) = map Number v.items
cells_of (Trip version fid) = Number version ∷ Long fid ∷ []
cells_of (Cells cells) = cells

-- a key is in its one short form
abbrev pub IsShort : RowKey → Type 0
IsShort key = short (cells_of key) ≡ key
