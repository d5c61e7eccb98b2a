-- Tables of numbers that may be below 0 are plain.
use Rattle.std.proofs.Common.{◌≡◌, ℕ, ℤ, true, ◌==◌, List, [], ◌∷◌, length, map, Option, Some, None, refl, sym, ◌∙◌}
use Rattle.std.specs.List.{list_all, zip}
use Rattle.std.proofs.lemmas.List.{length-map}
use Rattle.std.proofs.lemmas.List.Elements.{All-head, All-tail}
use Rattle.std.proofs.lemmas.Bool.{and_from, and_parts}
use Rattle.vdv451_text.specs.declared.table.Field.{Field}
use Rattle.vdv451_text.specs.declared.table.Head.{Head}
use Rattle.vdv451_text.specs.Plain.{are_plain_columns, is_plain_field, is_plain_name, is_plain_row}
use Rattle.number_tables.specs.Numbers.{number_head}
use Rattle.number_tables.specs.Signed.{AreSignedFull, PlainSigned, signed_field, signed_row, signed_rows}
use Rattle.number_tables.proofs.PlainLemmas.{few_heads, same_lengths}

plain_fields : (columns : List (List ℕ)) (row : List (Option ℤ)) →
    list_all (λ (pair : Head × Field). is_plain_field pair.0 pair.1) (zip (map number_head columns) (signed_row row)) ≡ true
plain_fields [] row = refl
plain_fields (name ∷ columns) [] = refl
plain_fields (name ∷ columns) (None ∷ row) = plain_fields columns row
plain_fields (name ∷ columns) (Some number ∷ row) = plain_fields columns row

plain_row : (columns : List (List ℕ)) (row : List (Option ℤ)) → length row ≡ length columns →
    is_plain_row (map number_head columns) (signed_row row) ≡ true
plain_row columns row full =
    and_from (length (map number_head columns) == length (signed_row row)) _
    (same_lengths _ _ (length-map columns number_head ∙ sym full ∙ sym (length-map row signed_field)))
    (plain_fields columns row)

plain_rows : (columns : List (List ℕ)) (rows : List (List (Option ℤ))) → AreSignedFull columns rows →
    list_all (is_plain_row (map number_head columns)) (signed_rows rows) ≡ true
plain_rows columns [] full = refl
plain_rows columns (row ∷ rows) full =
    and_from (is_plain_row (map number_head columns) (signed_row row)) _
    (plain_row columns row (All-head (λ row. length row ≡ length columns) row rows full))
    (plain_rows columns rows (All-tail (λ row. length row ≡ length columns) row rows full))

-- Under plain names full rows make a plain table, also where numbers may be below 0: the columns are of the same number format, in
-- which a number is plain whatever its sign. Names and columns are as in `plain_table`, and only the rows are shown anew; a row
-- need only be of the right length.
pub plain_signed : (name : List ℕ) (columns : List (List ℕ)) → PlainSigned name columns
plain_signed name columns = λ rows names full.
    let both = and_parts (is_plain_name name) _ names in
    and_from (is_plain_name name) _ both.0
    (and_from (are_plain_columns (map number_head columns)) _ (few_heads columns both.1) (plain_rows columns rows full))
