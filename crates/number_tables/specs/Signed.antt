-- Promise: tables whose fields are whole numbers, which may be below 0, or nothing.
use Rattle.std.specs.Prelude.{◌≡◌, ℕ, ℤ, List, length, map, Option, Some, None, All, IsTrue}
use Rattle.vdv451_text.specs.declared.table.Field.{Field}
use Rattle.vdv451_text.specs.declared.table.Field.TheVariants.{Num, Empty}
use Rattle.vdv451_text.specs.declared.table.Table.{Table}
use Rattle.vdv451_text.specs.Plain.{is_plain_table}
use Rattle.number_tables.specs.Numbers.{are_plain_names, table_over}

-- a number, or nothing
abbrev pub signed_field : Option ℤ → Field
signed_field None = Empty
signed_field (Some number) = Num number

abbrev pub signed_row : List (Option ℤ) → List Field
signed_row numbers = map signed_field numbers

abbrev pub signed_rows : List (List (Option ℤ)) → List (List Field)
signed_rows rows = map signed_row rows

-- the table of a name with these columns and rows of numbers
abbrev pub signed_table : List ℕ → List (List ℕ) → List (List (Option ℤ)) → Table
signed_table name columns rows = table_over name columns (signed_rows rows)

-- each row has as many numbers as there are columns
abbrev pub AreSignedFull : List (List ℕ) → List (List (Option ℤ)) → Type 0
AreSignedFull columns rows = All (λ row. length row ≡ length columns) rows

-- Under plain names full rows make a plain table.
abbrev pub PlainSigned : List ℕ → List (List ℕ) → Type 0
PlainSigned name columns =
    (rows : List (List (Option ℤ))) → IsTrue (are_plain_names name columns) → AreSignedFull columns rows →
    IsTrue (is_plain_table (signed_table name columns rows))
