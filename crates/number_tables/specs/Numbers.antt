-- Promise: tables whose fields are whole numbers or nothing.
use Rattle.std.specs.Prelude.{◌≡◌, ℕ, ◌<◌, ◌^◌, Bool, ◌==◌, ◌&&◌, not, nat_le, pos, List, [], ◌∷◌, length, map, Option, Some, None, All, IsTrue, codes}
use Rattle.std.specs.List.{list_all}
use Rattle.std.specs.Borrow.{Bor}
use Rattle.vdv451_text.specs.declared.table.Field.{Field}
use Rattle.vdv451_text.specs.declared.table.Field.TheVariants.{Num, Empty}
use Rattle.vdv451_text.specs.declared.table.Head.{Head}
use Rattle.vdv451_text.specs.declared.table.Table.{Table}
use Rattle.vdv451_text.specs.Plain.{is_plain_name, is_plain_table}

-- the texts that stand behind references
abbrev pub texts : List (Bor (List ℕ)) → List (List ℕ)
texts names = map (λ name. name.now) names

-- a column of whole numbers of at most 19 digits
abbrev pub number_head : List ℕ → Head
number_head name = record { name = name; format = codes "num[19.0]" }

-- a number, or nothing
abbrev pub number_field : Option ℕ → Field
number_field None = Empty
number_field (Some number) = Num (pos number)

abbrev pub number_row : List (Option ℕ) → List Field
number_row numbers = map number_field numbers

abbrev pub number_rows : List (List (Option ℕ)) → List (List Field)
number_rows rows = map number_row rows

-- a table whose columns are all of numbers, over rows of fields
abbrev pub table_over : List ℕ → List (List ℕ) → List (List Field) → Table
table_over name columns rows = record { name = name; columns = map number_head columns; rows = rows }

-- the table of a name with these columns and rows of numbers
abbrev pub number_table : List ℕ → List (List ℕ) → List (List (Option ℕ)) → Table
number_table name columns rows = table_over name columns (number_rows rows)

abbrev pub IsFieldNumber : Option ℕ → Type 0
IsFieldNumber None = Unit {0}
IsFieldNumber (Some number) = number < 2 ^ 63

-- each number is one that a field can hold
abbrev pub AreFieldNumbers : List (Option ℕ) → Type 0
AreFieldNumbers [] = Unit {0}
AreFieldNumbers (number ∷ numbers) = IsFieldNumber number × AreFieldNumbers numbers

-- the names of a plain table and of its 1 to 200 columns
abbrev pub are_plain_names : List ℕ → List (List ℕ) → Bool
are_plain_names name columns =
    is_plain_name name && (not (length columns == 0) && (nat_le (length columns) 200 && list_all is_plain_name columns))

-- each row has as many numbers as there are columns
abbrev pub AreFull : List (List ℕ) → List (List (Option ℕ)) → Type 0
AreFull columns rows = All (λ row. length row ≡ length columns) rows

-- Under plain names full rows make a plain table.
abbrev pub PlainNumbers : List ℕ → List (List ℕ) → Type 0
PlainNumbers name columns =
    (rows : List (List (Option ℕ))) → IsTrue (are_plain_names name columns) → AreFull columns rows →
    IsTrue (is_plain_table (number_table name columns rows))
