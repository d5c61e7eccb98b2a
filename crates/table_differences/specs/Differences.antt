-- Promise: the first place where tables are not the ones that they should be.
use Rattle.std.specs.Prelude.{ℕ, ◌+◌, ◌&&◌, min, not, Bool, true, false, nat_eq, List, ◌∷◌, length, drop, take, Option, Some, None, if◌then◌else◌, []}
use Rattle.std.specs.List.{list_all, position_from, zip}
use Rattle.std.specs.Ordering.{int_eq}
use Rattle.std.specs.Str.{bytes_eq}
use Rattle.vdv451_text.specs.declared.table.Field.{Field}
use Rattle.vdv451_text.specs.declared.table.Field.TheVariants.{Num, Text, Raw, Empty}
use Rattle.vdv451_text.specs.declared.table.Head.{Head}
use Rattle.vdv451_text.specs.declared.table.Table.{Table}
use Rattle.vdv452_rows.specs.Rows.{place_of}
use Rattle.number_tables.specs.Single.{single_in}
use Rattle.table_differences.specs.declared.difference.Difference.{Difference}

-- fields of one kind with one content
abbrev pub same_field : Field → Field → Bool
same_field (Num m) (Num n) = int_eq m n
same_field (Text a) (Text b) = bytes_eq a b
same_field (Raw a) (Raw b) = bytes_eq a b
same_field Empty Empty = true
same_field _ _ = false

-- as many fields, each the same
abbrev pub same_fields : List Field → List Field → Bool
same_fields given made = nat_eq (length given) (length made) && list_all (λ p. same_field p.0 p.1) (zip given made)

-- as many fields, each the same but the one at a place
abbrev pub same_beside : ℕ → List Field → List Field → Bool
same_beside place given made =
    nat_eq (length given) (length made) && same_fields (take place given) (take place made)
    && same_fields (drop (place + 1) given) (drop (place + 1) made)

-- the same row, whatever stands at the place that is left aside, where there is one
abbrev pub same_row : Option ℕ → List Field → List Field → Bool
same_row None given made = same_fields given made
same_row (Some place) given made = same_beside place given made

-- columns of one name and one format
abbrev pub same_head : Head → Head → Bool
same_head given made = bytes_eq given.name made.name && bytes_eq given.format made.format

abbrev pub same_heads : List Head → List Head → Bool
same_heads given made = nat_eq (length given) (length made) && list_all (λ p. same_head p.0 p.1) (zip given made)

-- where the first pair of rows differs, from 0
abbrev pub first_pair : Option ℕ → List (List Field) → List (List Field) → Option ℕ
first_pair aside given made = position_from (λ p. not (same_row aside p.0 p.1)) 0 (zip given made)

-- the row, from 1, at which rows end where others go on
abbrev pub end_difference : ℕ → ℕ → Option ℕ
end_difference given made = if nat_eq given made then None else Some (min given made + 1)

abbrev pub pair_or_end : Option ℕ → Option ℕ → Option ℕ
pair_or_end (Some place) at_end = Some (place + 1)
pair_or_end None at_end = at_end

-- the first row, from 1, that is not the same; where one table has more rows, the first of these
abbrev pub row_difference : Option ℕ → List (List Field) → List (List Field) → Option ℕ
row_difference aside given made = pair_or_end (first_pair aside given made) (end_difference (length given) (length made))

-- the place among a table's columns of the column that is left aside, where it is this table
abbrev pub aside_in : List ℕ → List ℕ → Table → Option ℕ
aside_in table column made = if bytes_eq made.name table then place_of column made.columns else None

-- the first row of a table that is not the same; the table as a whole, row 0, where its columns are not
abbrev pub table_difference : Option ℕ → Table → Table → Option ℕ
table_difference aside given made = if same_heads given.columns made.columns then row_difference aside given.rows made.rows else Some 0

abbrev pub difference_from : Option ℕ → Table → Option Table → Option ℕ
difference_from aside made None = Some 0
difference_from aside made (Some given) = table_difference aside given made

-- the same of the table of its name among others, which differs as a whole too where it is missing or stands twice
abbrev pub difference_among : List ℕ → List ℕ → List Table → Table → Option ℕ
difference_among table column given made = difference_from (aside_in table column made) made (single_in made.name given)

abbrev pub difference : ℕ → ℕ → Difference
difference table row = record { table = table; row = row }

abbrev pub found_or : ℕ → Option ℕ → Option Difference → Option Difference
found_or table (Some row) later = Some (difference table row)
found_or table None later = later

-- table by table in the order in which they should stand, where they are numbered from this number on
abbrev pub difference_on : List ℕ → List ℕ → List Table → ℕ → List Table → Option Difference
difference_on table column given number [] = None
difference_on table column given number (made ∷ rest) =
    found_or number (difference_among table column given made) (difference_on table column given (number + 1) rest)

-- The first place where given tables are not the ones that they should be, one column of one table aside.
abbrev pub first_difference : List ℕ → List ℕ → List Table → List Table → Option Difference
first_difference table column given made = difference_on table column given 0 made
