-- What the rows of REC_FRT say in its key columns, among plain tables without a fault.
use Rattle.std.proofs.Common.{◌≡◌, ℕ, suc, ◌+◌, Bool, true, false, if◌then◌else◌, ◌==◌, List, [], ◌∷◌, ◌++◌, length, Option, Some, None, All, ℤ, pos, negsuc, codes, is_none, nat_le, slice_get, unwrap_or, option_and_then, option_map, refl, ◌∙◌, ap, arith}
use Rattle.std.proofs.lemmas.Bool.{and_parts, eqb-true}
use Rattle.std.proofs.lemmas.List.Elements.{All-cons, All-nil}
use Rattle.std.specs.List.{list_all}
use Rattle.std.specs.Str.{bytes_eq}
use Rattle.vdv451_text.specs.declared.table.Field.{Field}
use Rattle.vdv451_text.specs.declared.table.Field.TheVariants.{Num, Text, Raw, Empty}
use Rattle.vdv451_text.specs.declared.table.Head.{Head}
use Rattle.vdv451_text.specs.declared.table.Table.{Table}
use Rattle.vdv451_text.specs.Fields.{number_of}
use Rattle.vdv451_text.specs.Plain.{is_plain_row}
use Rattle.vdv452_rows.specs.declared.cell.Cell.{Cell}
use Rattle.vdv452_rows.specs.declared.cell.Cell.TheVariants.{Nothing, Number, Long}
use Rattle.vdv452_rows.specs.declared.schema.Column.{Column}
use Rattle.vdv452_rows.specs.declared.schema.Domain.TheVariants.{UpTo, LongUpTo}
use Rattle.vdv452_rows.specs.Schema as schema
use Rattle.vdv452_rows.specs.Cells.{cell_of, long_up_to, number_up_to, whole_number}
use Rattle.vdv452_rows.specs.Rows.{cell_at, cell_fault, cell_faults, cell_in, field_at, first, key_of, missing_column, missing_columns, own_key, place_of, row_fault, row_faults, when}
use Rattle.number_tables.specs.Outlines.{number_in}

pub first_none : {A : Type 0} (xs : List A) → first xs ≡ None → xs ≡ []
first_none [] none = refl
first_none (x ∷ xs) none = absurd cc

pub front_empty : {A : Type 0} (xs ys : List A) → xs ++ ys ≡ [] → xs ≡ []
front_empty [] ys none = refl
front_empty (x ∷ xs) ys none = absurd cc

pub rest_empty : {A : Type 0} (xs ys : List A) → xs ++ ys ≡ [] → ys ≡ []
rest_empty [] ys none = none
rest_empty (x ∷ xs) ys none = absurd cc

not_when : {A : Type 0} (b : Bool) (x : A) → when b x ≡ [] → b ≡ false
not_when true x none = absurd cc
not_when false x none = refl

-- a field has the number that its value is made of
abbrev Reads : (ℕ → Cell) → Column → Option Field → Type 0
Reads made column field = (n : ℕ) × (option_and_then whole_number field ≡ Some (pos n)) × (cell_in column field ≡ made n)

-- the same of a number that was read, and of what a domain makes of it
abbrev Made : (ℕ → Cell) → Option ℤ → Option Cell → Type 0
Made made number cell = (n : ℕ) × (number ≡ Some (pos n)) × (unwrap_or cell Nothing ≡ made n)

number_if : (n : ℕ) (b : Bool) → is_none (if b then Some (Number n) else None) ≡ false →
    Made Number (Some (pos n)) (if b then Some (Number n) else None)
number_if n true there = (n, refl, refl)
number_if n false there = absurd cc

number_made : (most : ℕ) (number : Option ℤ) → is_none (option_and_then (number_up_to most) number) ≡ false →
    Made Number number (option_and_then (number_up_to most) number)
number_made most None there = absurd cc
number_made most (Some (pos n)) there = number_if n (nat_le n most) there
number_made most (Some (negsuc n)) there = absurd cc

long_if : (n : ℕ) (b : Bool) → is_none (if b then Some (Long n) else None) ≡ false →
    Made Long (Some (pos n)) (if b then Some (Long n) else None)
long_if n true there = (n, refl, refl)
long_if n false there = absurd cc

long_made : (most : ℕ) (number : Option ℤ) → is_none (option_and_then (long_up_to most) number) ≡ false →
    Made Long number (option_and_then (long_up_to most) number)
long_made most None there = absurd cc
long_made most (Some (pos n)) there = long_if n (nat_le n most) there
long_made most (Some (negsuc n)) there = absurd cc

-- a field that is right in a column of the key has its number
number_reads : (name : List ℕ) (most : ℕ) (field : Field) → is_none (cell_of (schema.key_of name (UpTo most)) field) ≡ false →
    Reads Number (schema.key_of name (UpTo most)) (Some field)
number_reads name most (Num n) there = number_made most (Some n) there
number_reads name most (Text text) there = number_made most (number_of text) there
number_reads name most (Raw bytes) there = number_made most (number_of bytes) there
number_reads name most Empty there = absurd cc

long_reads : (name : List ℕ) (most : ℕ) (field : Field) → is_none (cell_of (schema.key_of name (LongUpTo most)) field) ≡ false →
    Reads Long (schema.key_of name (LongUpTo most)) (Some field)
long_reads name most (Num n) there = long_made most (Some n) there
long_reads name most (Text text) there = long_made most (number_of text) there
long_reads name most (Raw bytes) there = long_made most (number_of bytes) there
long_reads name most Empty there = absurd cc

-- a field that is there and has no fault
module _ (made : ℕ → Cell) (column : Column) (reads : (field : Field) → is_none (cell_of column field) ≡ false →
    Reads made column (Some field)) where
  faultless_reads : (table : List ℕ) (place : ℕ) (field : Option Field) → is_none field ≡ false → cell_fault table place column field ≡ [] →
      Reads made column field
  faultless_reads table place None there none = absurd cc
  faultless_reads table place (Some field) there none = reads field (not_when (is_none (cell_of column field)) _ none)

shifted : (place : Option ℕ) → is_none (option_map (λ k. k + 1) place) ≡ false → is_none place ≡ false
shifted None there = there
shifted (Some k) there = refl

-- a row has a field at each of its table's columns
column_there : (heads : List Head) (row : List Field) (name : List ℕ) → length heads ≡ length row → is_none (place_of name heads) ≡ false →
    is_none (field_at heads row name) ≡ false
column_there [] row name same there = absurd cc
column_there (head ∷ heads) [] name same there = absurd (omega (arith, same))
column_there (head ∷ heads) (field ∷ row) name same there =
    by (bytes_eq head.name name) (column_there heads row name (omega (arith, same))) there
  where
    next : (place : Option ℕ) → option_and_then (slice_get (field ∷ row)) (option_map (λ k. k + 1) place)
        ≡ option_and_then (slice_get row) place
    next None = refl
    next (Some k) = let more : k + 1 ≡ suc k = omega arith in ap (slice_get (field ∷ row)) more

    by : (b : Bool) → (is_none (place_of name heads) ≡ false → is_none (field_at heads row name) ≡ false) →
        is_none (if b then Some 0 else option_map (λ k. k + 1) (place_of name heads)) ≡ false →
        is_none (option_and_then (slice_get (field ∷ row)) (if b then Some 0 else option_map (λ k. k + 1) (place_of name heads))) ≡ false
    by true later h = refl
    by false later h = ap is_none (next (place_of name heads)) ∙ later (shifted (place_of name heads) h)

-- the version and the number of a row of REC_FRT, as its bytes have them and as its cells do
pub record IsRead (table : Table) (row : List Field) : Type 0 where
  pub version : ℕ
  pub fid : ℕ
  pub version_in : number_in table.columns row (codes "BASIS_VERSION") ≡ Some (pos version)
  pub version_cell : cell_at table row (schema.key (codes "BASIS_VERSION")) ≡ Number version
  pub fid_in : number_in table.columns row (codes "FRT_FID") ≡ Some (pos fid)
  pub fid_cell : cell_at table row (schema.trip_key (codes "FRT_FID")) ≡ Long fid

module _ (table : Table) (whole : missing_columns schema.trips table ≡ []) where
  version_column : is_none (place_of (codes "BASIS_VERSION") table.columns) ≡ false
  version_column = not_when _ _ (front_empty (missing_column schema.trips.name table.columns (schema.key (codes "BASIS_VERSION"))) _ whole)

  fid_column : is_none (place_of (codes "FRT_FID") table.columns) ≡ false
  fid_column = not_when _ _ (front_empty
      (missing_column schema.trips.name table.columns (schema.trip_key (codes "FRT_FID"))) _ (rest_empty
      (missing_column schema.trips.name table.columns (schema.key (codes "BASIS_VERSION"))) _ whole))

  -- a row with a field for each column and no fault in them
  row_read : (place : ℕ) (row : List Field) → length table.columns ≡ length row →
      cell_faults schema.trips table place row ≡ [] → IsRead table row
  row_read place row same none =
      let version_field : Option Field = field_at table.columns row (codes "BASIS_VERSION") in
      let fid_field : Option Field = field_at table.columns row (codes "FRT_FID") in
      let version = faultless_reads Number (schema.key (codes "BASIS_VERSION")) (number_reads (codes "BASIS_VERSION") 4294967295)
      schema.trips.name place version_field (column_there table.columns row (codes "BASIS_VERSION") same version_column)
      (front_empty (cell_fault schema.trips.name place (schema.key (codes "BASIS_VERSION")) version_field) _ none) in
      let later = rest_empty (cell_fault schema.trips.name place (schema.key (codes "BASIS_VERSION")) version_field) _ none in
      let fid = faultless_reads Long (schema.trip_key (codes "FRT_FID")) (long_reads (codes "FRT_FID") 1000000000000000000)
      schema.trips.name place fid_field (column_there table.columns row (codes "FRT_FID") same fid_column)
      (front_empty (cell_fault schema.trips.name place (schema.trip_key (codes "FRT_FID")) fid_field) _ later) in
      record { version = version.0; fid = fid.0; version_in = version.1; version_cell = version.2; fid_in = fid.1; fid_cell = fid.2 }

  -- Each row of REC_FRT has, where neither its table's columns nor its cells have a fault, a version and a number, and these are the
  -- same for one who reads its bytes (`number_in`, by which rows are copied) and for one who reads its cells (by which the day is
  -- built and keys are compared). A plain row has a field for each column, so the fields are there; a field without a fault is a
  -- number in range.
  pub rows_read : (before : List (List Cell)) (place : ℕ) (rows : List (List Field)) → list_all (is_plain_row table.columns) rows ≡ true →
      row_faults schema.trips table before place rows ≡ [] → All (IsRead table) rows
  rows_read before place [] plain none = All-nil (IsRead table)
  rows_read before place (row ∷ rows) plain none =
      let parts = and_parts (is_plain_row table.columns row) (list_all (is_plain_row table.columns) rows) plain in
      let width = and_parts (length table.columns == length row) _ parts.0 in
      let here : row_fault schema.trips table before place row ≡ [] = front_empty (row_fault schema.trips table before place row) _ none in
      let later : row_faults schema.trips table (before ++ own_key (key_of schema.trips table row)) (place + 1) rows ≡ [] =
      rest_empty (row_fault schema.trips table before place row) _ none in
      All-cons (IsRead table) row rows
      (row_read place row (eqb-true (length table.columns) (length row) width.0)
      (front_empty (cell_faults schema.trips table place row) _ here))
      (rows_read (before ++ own_key (key_of schema.trips table row)) (place + 1) rows parts.1 later)
