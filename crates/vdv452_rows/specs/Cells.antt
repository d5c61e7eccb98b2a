-- Promise: what a field means in a column.
use Rattle.std.specs.Prelude.{ℕ, Bool, true, false, ◌==◌, nat_le, ℤ, pos, negsuc, List, Option, Some, None, if◌then◌else◌}
use Rattle.std.specs.Cmp.Lexicographic.{pointwise}
use Rattle.std.specs.Fmt.{signed_decimal}
use Rattle.std.specs.Option.{option_and_then}
use Rattle.std.specs.Str.{bytes_eq}
use Rattle.vdv451_text.specs.declared.table.Field.{Field}
use Rattle.vdv451_text.specs.declared.table.Field.TheVariants.{Num, Text, Raw, Empty}
use Rattle.vdv451_text.specs.Fields.{number_of}
use Rattle.vdv452_rows.specs.declared.cell.Cell.{Cell}
use Rattle.vdv452_rows.specs.declared.cell.Cell.TheVariants.{Nothing, Number, Long, Word}
use Rattle.vdv452_rows.specs.declared.schema.Column.{Column}
use Rattle.vdv452_rows.specs.declared.schema.Domain.{Domain}
use Rattle.vdv452_rows.specs.declared.schema.Domain.TheVariants.{UpTo, LongUpTo, AnyWord, Unseen}

-- a number is a Num, or a text or bare bytes that spell one
abbrev pub whole_number : Field → Option ℤ
whole_number (Num n) = Some n
whole_number (Text text) = number_of text
whole_number (Raw bytes) = number_of bytes
whole_number Empty = None

-- a number from 0 to the greatest one
abbrev pub number_up_to : ℕ → ℤ → Option Cell
number_up_to most (pos n) = if nat_le n most then Some (Number n) else None
number_up_to most (negsuc n) = None

abbrev pub long_up_to : ℕ → ℤ → Option Cell
long_up_to most (pos n) = if nat_le n most then Some (Long n) else None
long_up_to most (negsuc n) = None

-- the bytes of a text or of a bare field, the decimal digits of a number
abbrev pub word : Field → Option Cell
word (Num n) = Some (Word (signed_decimal n))
word (Text text) = Some (Word text)
word (Raw bytes) = Some (Word bytes)
word Empty = None

abbrev pub value_in : Domain → Field → Option Cell
value_in (UpTo most) field = option_and_then (number_up_to most) (whole_number field)
value_in (LongUpTo most) field = option_and_then (long_up_to most) (whole_number field)
value_in AnyWord field = word field
value_in Unseen field = Some Nothing

abbrev pub is_empty_field : Field → Bool
is_empty_field Empty = true
is_empty_field (Num n) = false
is_empty_field (Text text) = false
is_empty_field (Raw bytes) = false

-- the value of a field in a column, where it is right there
abbrev pub cell_of : Column → Field → Option Cell
cell_of column field = if is_empty_field field then (if column.may_be_empty then Some Nothing else None) else value_in column.domain field

abbrev pub same_cell : Cell → Cell → Bool
same_cell Nothing Nothing = true
same_cell (Number m) (Number n) = m == n
same_cell (Long m) (Long n) = m == n
same_cell (Word v) (Word w) = bytes_eq v w
same_cell _ _ = false

-- one by one
abbrev pub same_cells : List Cell → List Cell → Bool
same_cells = pointwise same_cell
