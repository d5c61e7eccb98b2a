-- The numbers that bytes spell have 64 bits.
use Rattle.std.proofs.Common.{◌≡◌, ℕ, zero, suc, ◌^◌, ◌-◌, ℤ, pos, neg_ℤ, Bool, true, false, ◌&&◌, ◌==◌, if◌then◌else◌, nat_le, nat_lt, List, [], ◌∷◌, length, Option, Some, None, IfSome, refl, subst, arith, codes}
use Rattle.std.specs.List.{list_all}
use Rattle.std.specs.Str.{bytes_eq}
use Rattle.std.specs.Str.Parse.{digits_value}
use Rattle.std.proofs.lemmas.Bool.Decides.{nat_tests}
use Rattle.std.proofs.lemmas.Bool.{and_from, and_parts}
use Rattle.vdv451_text.specs.declared.table.Field.{Field}
use Rattle.vdv451_text.specs.declared.table.Field.TheVariants.{Raw, Empty}
use Rattle.vdv451_text.specs.declared.table.Head.{Head}
use Rattle.vdv451_text.specs.declared.table.Table.{Table}
use Rattle.vdv451_text.specs.declared.pieces.Piece.{Piece}
use Rattle.vdv451_text.specs.declared.pieces.Piece.TheVariants.{Bare, Quoted}
use Rattle.vdv451_text.specs.Lines.{Line}
use Rattle.vdv451_text.specs.Fields.{at_most_one_void, is_digits, is_num_format, negative, not_negative, number_of, number_or_raw, value_of}
use Rattle.vdv451_text.specs.Grammar.{SpellsRows, SpellsTables, values_of}
use Rattle.vdv451_text.specs.Faults.{Gives}
use Rattle.vdv451_text.specs.Plain.{is_sized_field, is_sized_row, is_word}
use Rattle.vdv451_text.proofs.RightLines.{some_mapped}
use Rattle.accepted_texts.proofs.TextsBack.{HaveWords}

abbrev IsWordOr : Option ℤ → Type 0
IsWordOr o = IfSome o (λ z. is_word z ≡ true)

small : (n : ℕ) → nat_le n (2 ^ 63 - 1) ≡ true → nat_lt n (2 ^ 63) ≡ true
small n h = grind (arith, nat_tests, h)

below_zero : (n : ℕ) → nat_le n (2 ^ 63) ≡ true → is_word (neg_ℤ (pos n)) ≡ true
below_zero zero h = refl
below_zero (suc n) h = grind (arith, nat_tests, h)

above_words : (digits : List ℕ) → IsWordOr (not_negative digits)
above_words digits =
    let v : ℕ = digits_value 10 digits in
    let Goal : Bool → Type 0 = λ b. (is_digits digits && nat_le v (2 ^ 63 - 1)) ≡ b → IsWordOr (if b then Some (pos v) else None) in
    let split : (b : Bool) → Goal b = λ b. elim b as Goal [
      | true ↦ λ e. small v (and_parts (is_digits digits) (nat_le v (2 ^ 63 - 1)) e).1
      | false ↦ λ e. tt
    ] in
    split (is_digits digits && nat_le v (2 ^ 63 - 1)) refl

below_words : (digits : List ℕ) → IsWordOr (negative digits)
below_words digits =
    let v : ℕ = digits_value 10 digits in
    let Goal : Bool → Type 0 = λ b. (is_digits digits && nat_le v (2 ^ 63)) ≡ b → IsWordOr (if b then Some (neg_ℤ (pos v)) else None) in
    let split : (b : Bool) → Goal b = λ b. elim b as Goal [
      | true ↦ λ e. below_zero v (and_parts (is_digits digits) (nat_le v (2 ^ 63)) e).1
      | false ↦ λ e. tt
    ] in
    split (is_digits digits && nat_le v (2 ^ 63)) refl

either : (b : Bool) (x y : Option ℤ) → IsWordOr x → IsWordOr y → IsWordOr (if b then x else y)
either true x y h k = h
either false x y h k = k

number_words : (bytes : List ℕ) → IsWordOr (number_of bytes)
number_words [] = tt
number_words (b ∷ bytes) =
    either (b == 43) (not_negative bytes) (if b == 45 then negative bytes else not_negative (b ∷ bytes)) (above_words bytes)
    (either (b == 45) (negative bytes) (not_negative (b ∷ bytes)) (below_words bytes) (above_words (b ∷ bytes)))

read_words : (bytes : List ℕ) (o : Option ℤ) → IsWordOr o → is_sized_field (number_or_raw bytes o) ≡ true
read_words bytes None h = refl
read_words bytes (Some z) h = h

field_either : (b : Bool) (x y : Field) → is_sized_field x ≡ true → is_sized_field y ≡ true → is_sized_field (if b then x else y) ≡ true
field_either true x y h k = h
field_either false x y h k = k

value_words : (format : List ℕ) (piece : Piece) → is_sized_field (value_of format piece) ≡ true
value_words format (Quoted text) = refl
value_words format (Bare []) = refl
value_words format (Bare (b ∷ bytes)) =
    let number : Field = number_or_raw (b ∷ bytes) (number_of (b ∷ bytes)) in
    field_either (bytes_eq (b ∷ bytes) (codes "NULL")) Empty (if is_num_format format then number else Raw (b ∷ bytes)) refl
    (field_either (is_num_format format) number (Raw (b ∷ bytes))
    (read_words (b ∷ bytes) (number_of (b ∷ bytes)) (number_words (b ∷ bytes))) refl)

row_words : (columns : List Head) (pieces : List Piece) (row : List Field) → values_of columns pieces ≡ Some row → is_sized_row row ≡ true
row_words [] [] [] e = refl
row_words [] [] (field ∷ row) e = absurd cc
row_words [] (piece ∷ pieces) row e = absurd cc
row_words (column ∷ columns) [] row e = absurd cc
row_words (column ∷ columns) (piece ∷ pieces) row e =
    let value : Field = value_of column.format piece in
    let found = some_mapped (λ (values : List Field). value ∷ values) (values_of columns pieces) row e in
    let P : List Field → Type 0 = λ fields. is_sized_row fields ≡ true in
    subst P found.2
    (and_from (is_sized_field value) (is_sized_row found.0) (value_words column.format piece) (row_words columns pieces found.0 found.1))

rows_words : (columns : List Head) (lines : List Line) (rows : List (List Field)) → SpellsRows columns lines rows →
    list_all is_sized_row rows ≡ true
rows_words columns [] [] spelled = refl
rows_words columns (line ∷ lines) (row ∷ rows) spelled =
    let one = spelled.0 in
    and_from (is_sized_row row) (list_all is_sized_row rows)
    (row_words columns (at_most_one_void (length columns) one.0) row one.2)
    (rows_words columns lines rows spelled.1)
rows_words columns [] (row ∷ rows) spelled = absurd spelled
rows_words columns (line ∷ lines) [] spelled = absurd spelled

tables_words : (lines : List Line) (tables : List Table) → SpellsTables lines tables → HaveWords tables
tables_words lines [] spelled = tt
tables_words lines (table ∷ tables) (first, others, parts, one, more) =
    (rows_words table.columns one.recs table.rows one.rows, tables_words others tables more)

-- So the numbers of all tables that are read from files have 64 bits, whatever the files hold: a bare field that spells a greater number is
-- kept as its bytes.
-- The proof takes reading apart down to the test of digits: a number is made only where its digits' value passes the limit, and
-- everything else a field may be has no number. So the rows of REC_FRT that a plan copies need no assumption on the files.
pub given_words : (most : ℕ) (bytes : List ℕ) (tables : List Table) → Gives most bytes tables → HaveWords tables
given_words most bytes tables given = tables_words given.1.body tables given.1.tables_lines
