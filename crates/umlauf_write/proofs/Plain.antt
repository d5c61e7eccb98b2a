-- The tables are plain.
use Rattle.std.proofs.Common.{◌≡◌, ℕ, ◌+◌, ◌<◌, ◌≤◌, ◌^◌, Bool, true, false, ◌==◌, zero, suc, List, ◌∷◌, length, Option, Some, None, IfSome, Result, Ok, Err, IfOk, refl, ◌∙◌, ap, arith, slice_set, slice_index_or, decimal, pos, if◌then◌else◌, []}
use Rattle.std.proofs.lemmas.List.{length-set}
use Rattle.std.specs.Option.{option_map}
use Rattle.std.specs.List.{list_all, zip}
use Rattle.std.specs.Str.{bytes_eq}
use Rattle.std.proofs.lemmas.Bool.{and_from, and_parts}
use Rattle.vdv451_text.specs.declared.table.Field.{Field}
use Rattle.vdv451_text.specs.declared.table.Field.TheVariants.{Num, Raw}
use Rattle.vdv451_text.specs.declared.table.Head.{Head}
use Rattle.vdv451_text.specs.declared.table.Table.{Table}
use Rattle.vdv451_text.specs.Fields.{is_num_format}
use Rattle.vdv451_text.specs.Plain.{is_plain_field, is_plain_row, is_plain_table}
use Rattle.vdv451_text.proofs.FieldsBack.{digits_plain}
use Rattle.vdv452_rows.specs.Rows.{place_of}
use Rattle.cover_core.specs.declared.Column.{Column}
use Rattle.day_model.specs.Facts.{DayFacts}
use Rattle.number_tables.specs.Numbers.{AreFull}
use Rattle.umlauf_write.specs.Tables.{block_columns, block_of, block_row, cost_columns, cost_row, format_at, is_in, numbered, uid_field, with_uid}

-- rows of numbered items are full
pub full_from : {A : Type 0} (columns : List (List ℕ)) (row : ℕ → A → List (Option ℕ)) →
    ((n : ℕ) (item : A) → length (row n item) ≡ length columns) → (number : ℕ) (items : List A) →
    AreFull columns (numbered row number items)
full_from columns row width number [] = λ k d within. absurd (omega (arith, within))
full_from columns row width number (item ∷ items) =
    λ k. elim k as (λ k. (d : List (Option ℕ)) → k < length (numbered row number (item ∷ items)) →
    length (slice_index_or (numbered row number (item ∷ items)) k d) ≡ length columns) [
      | zero ↦ λ d within. width number item
      | suc j ↦ λ d within. full_from columns row width (number + 1) items j d (omega (arith, within))
    ]

pub block_rows_full : (day : DayFacts) (blocks : List Column) → AreFull block_columns (numbered (block_row day) 1 blocks)
block_rows_full day blocks = full_from block_columns (block_row day) (λ n block. refl) 1 blocks

pub cost_rows_full : (day : DayFacts) (blocks : List Column) → AreFull cost_columns (numbered (cost_row day) 1 blocks)
cost_rows_full day blocks = full_from cost_columns (cost_row day) (λ n block. refl) 1 blocks

-- the number of a block is plain in its column
uid_plain : (head : Head) (number : ℕ) → number < 2 ^ 63 → is_plain_field head (uid_field head.format number) ≡ true
uid_plain head number small =
    let Goal : Bool → Type 0 =
    λ b. is_num_format head.format ≡ b → is_plain_field head (if b then Num (pos number) else Raw (decimal number)) ≡ true in
    let split : (b : Bool) → Goal b = λ b. elim b as Goal [ true ↦ λ e. e | false ↦ λ e. digits_plain head.format number small e ] in
    split (is_num_format head.format) refl

abbrev is_plain_pair : Head × Field → Bool
is_plain_pair pair = is_plain_field pair.0 pair.1

-- a plain field in a plain row
zip_set : (heads : List Head) (row : List Field) (place : ℕ) (field : Field) (d : Head) → place < length heads →
    is_plain_field (slice_index_or heads place d) field ≡ true →
    list_all is_plain_pair (zip heads row) ≡ true → list_all is_plain_pair (zip heads (slice_set row place field)) ≡ true
zip_set [] row place field d within plain all = absurd (omega (arith, within))
zip_set (head ∷ heads) [] place field d within plain all = refl
zip_set (head ∷ heads) (old ∷ row) zero field d within plain all =
    and_from (is_plain_field head field) (list_all is_plain_pair (zip heads row)) plain
    (and_parts (is_plain_field head old) (list_all is_plain_pair (zip heads row)) all).1
zip_set (head ∷ heads) (old ∷ row) (suc place) field d within plain all =
    let parts = and_parts (is_plain_field head old) (list_all is_plain_pair (zip heads row)) all in
    and_from (is_plain_field head old) (list_all is_plain_pair (zip heads (slice_set row place field))) parts.0
    (zip_set heads row place field d (omega (arith, within)) plain parts.1)

abbrev no_head : Head
no_head = record { name = []; format = [] }

-- One field of a plain row is replaced by a field that is plain in its column: a number in a column of numbers, digits in any other.
-- All other fields stay, and so does the length of the row; so the table can be written, whatever format the company gave UM_UID.
pub with_uid_plain : (heads : List Head) (place : Option ℕ) (row : List Field) (number : ℕ) → IfSome place (λ p. p < length heads) →
    number < 2 ^ 63 → is_plain_row heads row ≡ true → is_plain_row heads (with_uid heads place row number) ≡ true
with_uid_plain heads None row number within small plain = plain
with_uid_plain heads (Some place) row number within small plain =
    let parts = and_parts (length heads == length row) (list_all is_plain_pair (zip heads row)) plain in
    let field : Field = uid_field (format_at heads place) number in
    and_from (length heads == length (slice_set row place field)) (list_all is_plain_pair (zip heads (slice_set row place field)))
    (ap (λ n. length heads == n) (length-set row place field) ∙ parts.0)
    (zip_set heads row place field no_head within (uid_plain (slice_index_or heads place no_head) number small) parts.1)

-- a column that is found is there
pub place_there : (name : List ℕ) (heads : List Head) → IfSome (place_of name heads) (λ p. p < length heads)
place_there name [] = tt
place_there name (head ∷ heads) =
    let Goal : Bool → Type 0 =
    λ b. IfSome (if b then Some 0 else option_map (λ (place : ℕ). place + 1) (place_of name heads)) (λ p. p < length (head ∷ heads)) in
    let later : (o : Option ℕ) → IfSome o (λ p. p < length heads) →
    IfSome (option_map (λ (place : ℕ). place + 1) o) (λ p. p < length (head ∷ heads)) =
    λ o. elim o as (λ o. IfSome o (λ p. p < length heads) →
    IfSome (option_map (λ (place : ℕ). place + 1) o) (λ p. p < length (head ∷ heads))) [
      | None ↦ λ h. tt
      | Some place ↦ λ h. omega (arith, h)
    ] in
    let split : (b : Bool) → Goal b =
    λ b. elim b as Goal [ true ↦ omega arith | false ↦ later (place_of name heads) (place_there name heads) ] in
    split (bytes_eq head.name name)

-- Numbers of blocks are small. So a number of at most 3,001 is written, far below what a field can spell.
pub block_small : (number : ℕ) (blocks : List Column) (trip : ℕ) → block_of number blocks trip ≤ number + length blocks
block_small number [] trip = omega arith
block_small number (block ∷ blocks) trip =
    let Goal : Bool → Type 0 = λ b. (if b then number else block_of (number + 1) blocks trip) ≤ number + length (block ∷ blocks) in
    let later = block_small (number + 1) blocks trip in
    let split : (b : Bool) → Goal b = λ b. elim b as Goal [ true ↦ omega arith | false ↦ omega (arith, later) ] in
    split (is_in trip block)

-- what is made is plain
pub ok_plain : {E : Type 0} (r : Result Table E) (t : Table) → IfOk r (λ made. made ≡ t) → is_plain_table t ≡ true →
    IfOk r (λ made. is_plain_table made ≡ true)
ok_plain (Ok made) t is plain = ap is_plain_table is ∙ plain
ok_plain (Err e) t is plain = tt

-- where the column UM_UID stands, if it is there, each row has a field
pub uid_fits : (place : Option ℕ) (heads : List Head) (row : List Field) → IfSome place (λ p. p < length heads) →
    length row ≡ length heads → IfSome place (λ p. (p < length heads) × (p < length row))
uid_fits None heads row within long = tt
uid_fits (Some p) heads row within long = (within, omega (arith, within, long))
