-- Tables of numbers are plain.
use Rattle.std.proofs.Common.{◌≡◌, ℕ, true, ◌&&◌, ◌==◌, not, nat_le, List, [], ◌∷◌, length, map, Option, Some, None, refl, sym, ◌∙◌, ap, arith}
use Rattle.std.specs.List.{list_all, zip}
use Rattle.std.proofs.lemmas.List.{length-map}
use Rattle.std.proofs.lemmas.List.Elements.{All-head, All-map, All-tail}
use Rattle.std.proofs.lemmas.Bool.{and_from, and_parts}
use Rattle.vdv451_text.specs.declared.table.Field.{Field}
use Rattle.vdv451_text.specs.declared.table.Head.{Head}
use Rattle.vdv451_text.specs.Plain.{are_plain_columns, is_plain_column, is_plain_field, is_plain_name, is_plain_row}
use Rattle.number_tables.specs.Numbers.{AreFull, PlainNumbers, number_field, number_head, number_row, number_rows}

pub same_lengths : (m n : ℕ) → m ≡ n → (m == n) ≡ true
same_lengths m n e = grind arith

-- a column of a plain name is plain
plain_heads : (columns : List (List ℕ)) → list_all is_plain_name columns ≡ true → list_all is_plain_column (map number_head columns) ≡ true
plain_heads [] plain = refl
plain_heads (name ∷ columns) plain =
    let both = and_parts (is_plain_name name) (list_all is_plain_name columns) plain in
    and_from (is_plain_column (number_head name)) (list_all is_plain_column (map number_head columns))
    (and_from (is_plain_name name) true both.0 refl) (plain_heads columns both.1)

plain_fields : (columns : List (List ℕ)) (row : List (Option ℕ)) →
    list_all (λ (pair : Head × Field). is_plain_field pair.0 pair.1) (zip (map number_head columns) (number_row row)) ≡ true
plain_fields [] row = refl
plain_fields (name ∷ columns) [] = refl
plain_fields (name ∷ columns) (None ∷ row) = plain_fields columns row
plain_fields (name ∷ columns) (Some number ∷ row) = plain_fields columns row

plain_row : (columns : List (List ℕ)) (row : List (Option ℕ)) → length row ≡ length columns →
    is_plain_row (map number_head columns) (number_row row) ≡ true
plain_row columns row full =
    and_from (length (map number_head columns) == length (number_row row)) _
    (same_lengths _ _ (length-map columns number_head ∙ sym full ∙ sym (length-map row number_field)))
    (plain_fields columns row)

plain_rows : (columns : List (List ℕ)) (rows : List (List (Option ℕ))) → AreFull columns rows →
    list_all (is_plain_row (map number_head columns)) (number_rows rows) ≡ true
plain_rows columns [] full = refl
plain_rows columns (row ∷ rows) full =
    and_from (is_plain_row (map number_head columns) (number_row row)) _
    (plain_row columns row (All-head (λ row. length row ≡ length columns) row rows full))
    (plain_rows columns rows (All-tail (λ row. length row ≡ length columns) row rows full))

pub few_heads : (columns : List (List ℕ)) → (not (length columns == 0) && (nat_le (length columns) 200 && list_all is_plain_name columns))
    ≡ true → are_plain_columns (map number_head columns) ≡ true
few_heads columns plain =
    let some = and_parts (not (length columns == 0)) _ plain in
    let few = and_parts (nat_le (length columns) 200) _ some.1 in
    let same : length (map number_head columns) ≡ length columns = length-map columns number_head in
    and_from (not (length (map number_head columns) == 0)) _ (ap (λ n. not (n == 0)) same ∙ some.0)
    (and_from (nat_le (length (map number_head columns)) 200) _ (ap (λ n. nat_le n 200) same ∙ few.0) (plain_heads columns few.1))

-- Under plain names full rows make a plain table: all columns are of a number format, in which every number is plain and so is
-- nothing; what is left to ask is that names are plain, that there are 1 to 200 columns, and that each row has a field for each.
-- For the tables of this project the first two are tests on constants, so a table is plain as soon as its rows have the right
-- length (`full_rows`).
pub plain_table : (name : List ℕ) (columns : List (List ℕ)) → PlainNumbers name columns
plain_table name columns = λ rows names full.
    let both = and_parts (is_plain_name name) _ names in
    and_from (is_plain_name name) _ both.0
    (and_from (are_plain_columns (map number_head columns)) _ (few_heads columns both.1) (plain_rows columns rows full))

-- rows of items that each have as many numbers as there are columns are full
pub full_rows : {A : Type 0} (columns : List (List ℕ)) (numbers_of : A → List (Option ℕ)) →
    ((item : A) → length (numbers_of item) ≡ length columns) → (items : List A) → AreFull columns (map numbers_of items)
full_rows columns numbers_of width items = All-map (λ row. length row ≡ length columns) numbers_of items (λ k d within. width _)
