-- The rows of plain tables without a fault have values in the columns of their keys, and no two of a table have one key.
use Rattle.std.proofs.Common.{◌≡◌, ℕ, zero, suc, ◌+◌, Bool, true, false, ◌==◌, if◌then◌else◌, All, AllPairs, List, ◌∷◌, ◌++◌, length, map, Option, Some, None, ℤ, pos, negsuc, is_none, nat_le, slice_get, unwrap_or, option_and_then, option_map, refl, sym, ap, ◌∙◌, subst, arith, []}
use Rattle.std.proofs.lemmas.Bool.{and_parts, eqb-true}
use Rattle.std.proofs.lemmas.List.Elements.{All-cons, All-nil, recursion_from_All}
use Rattle.std.proofs.lemmas.Slice.Eq.{bytes_eq-Decides}
use Rattle.std.specs.List.{AllByRecursion, find, flat_map, list_all}
use Rattle.std.specs.Str.{bytes_eq}
use Rattle.vdv451_text.specs.declared.table.Field.{Field}
use Rattle.vdv451_text.specs.declared.table.Field.TheVariants.{Num, Text, Raw, Empty}
use Rattle.vdv451_text.specs.declared.table.Head.{Head}
use Rattle.vdv451_text.specs.declared.table.Table.{Table}
use Rattle.vdv451_text.specs.Fields.{number_of as number_in}
use Rattle.vdv451_text.specs.Plain.{are_plain, are_plain_columns, is_plain_name, is_plain_row, is_plain_table}
use Rattle.vdv452_rows.specs.declared.cell.Cell.{Cell}
use Rattle.vdv452_rows.specs.declared.cell.Cell.TheVariants.{Nothing, Number, Long}
use Rattle.vdv452_rows.specs.declared.schema.Column.{Column}
use Rattle.vdv452_rows.specs.declared.schema.Domain.TheVariants.{UpTo, LongUpTo}
use Rattle.vdv452_rows.specs.declared.schema.Schema.{Schema}
use Rattle.vdv452_rows.specs.Schema as schema
use Rattle.vdv452_rows.specs.Cells.{cell_of, long_up_to, number_up_to, same_cells}
use Rattle.vdv452_rows.specs.Rows.{HasOwnKeys, cell_at, cell_fault, cell_faults, cell_in, cells, faults_in, faults_of, field_at, first, has_name, key_of, keys_in, missing_columns, own_key, place_of, row_fault, row_faults, table_faults, table_of, when}
use Rattle.vdv452_rows.specs.TypedRows.{typed}
use Rattle.check_answers.proofs.Apart.{Apart, IsOther}

pub first-none : {A : Type 0} (xs : List A) → first xs ≡ None → xs ≡ []
first-none [] none = refl
first-none (x ∷ xs) none = absurd (cc)

pub front-empty : {A : Type 0} (xs ys : List A) → xs ++ ys ≡ [] → xs ≡ []
front-empty [] ys none = refl
front-empty (x ∷ xs) ys none = absurd (cc)

pub rest-empty : {A : Type 0} (xs ys : List A) → xs ++ ys ≡ [] → ys ≡ []
rest-empty [] ys none = none
rest-empty (x ∷ xs) ys none = absurd (cc)

pub not-when : {A : Type 0} (b : Bool) (x : A) → when b x ≡ [] → b ≡ false
not-when true x none = absurd (cc)
not-when false x none = refl

-- A field that is right in a column of the key has its number.
abbrev Made : (ℕ → Cell) → Option Cell → Type 0
Made made cell = (n : ℕ) × (unwrap_or cell Nothing ≡ made n)

number-if : (n : ℕ) (b : Bool) → is_none (if b then Some (Number n) else None) ≡ false → Made Number (if b then Some (Number n) else None)
number-if n true there = (n, refl)
number-if n false there = absurd (cc)

number-made : (most : ℕ) (number : Option ℤ) → is_none (option_and_then (number_up_to most) number) ≡ false →
    Made Number (option_and_then (number_up_to most) number)
number-made most None there = absurd (cc)
number-made most (Some (pos n)) there = number-if n (nat_le n most) there
number-made most (Some (negsuc n)) there = absurd (cc)

long-if : (n : ℕ) (b : Bool) → is_none (if b then Some (Long n) else None) ≡ false → Made Long (if b then Some (Long n) else None)
long-if n true there = (n, refl)
long-if n false there = absurd (cc)

long-made : (most : ℕ) (number : Option ℤ) → is_none (option_and_then (long_up_to most) number) ≡ false →
    Made Long (option_and_then (long_up_to most) number)
long-made most None there = absurd (cc)
long-made most (Some (pos n)) there = long-if n (nat_le n most) there
long-made most (Some (negsuc n)) there = absurd (cc)

number-reads : (name : List ℕ) (most : ℕ) (field : Field) → is_none (cell_of (schema.key_of name (UpTo most)) field) ≡ false →
    Made Number (cell_of (schema.key_of name (UpTo most)) field)
number-reads name most (Num n) there = number-made most (Some n) there
number-reads name most (Text text) there = number-made most (number_in text) there
number-reads name most (Raw bytes) there = number-made most (number_in bytes) there
number-reads name most Empty there = absurd (cc)

long-reads : (name : List ℕ) (most : ℕ) (field : Field) → is_none (cell_of (schema.key_of name (LongUpTo most)) field) ≡ false →
    Made Long (cell_of (schema.key_of name (LongUpTo most)) field)
long-reads name most (Num n) there = long-made most (Some n) there
long-reads name most (Text text) there = long-made most (number_in text) there
long-reads name most (Raw bytes) there = long-made most (number_in bytes) there
long-reads name most Empty there = absurd (cc)

-- a field that is there and has no fault
module _ (made : ℕ → Cell) (column : Column) (reads : (field : Field) → is_none (cell_of column field) ≡ false →
    Made made (cell_of column field)) where
  faultless-reads : (table : List ℕ) (place : ℕ) (field : Option Field) → is_none field ≡ false → cell_fault table place column field ≡ [] →
      (n : ℕ) × (cell_in column field ≡ made n)
  faultless-reads table place None there none = absurd (cc)
  faultless-reads table place (Some field) there none = reads field (not-when (is_none (cell_of column field)) _ none)

shifted : (place : Option ℕ) → is_none (option_map (λ k. k + 1) place) ≡ false → is_none place ≡ false
shifted None there = there
shifted (Some k) there = refl

-- a row has a field at each of its table's columns
column-there : (heads : List Head) (row : List Field) (name : List ℕ) → length heads ≡ length row → is_none (place_of name heads) ≡ false →
    is_none (field_at heads row name) ≡ false
column-there [] row name same there = absurd (cc)
column-there (head ∷ heads) [] name same there = absurd (omega (arith, same))
column-there (head ∷ heads) (field ∷ row) name same there =
    by (bytes_eq head.name name) (column-there heads row name (omega (arith, same))) there
  where
    next : (place : Option ℕ) →
        option_and_then (slice_get (field ∷ row)) (option_map (λ k. k + 1) place) ≡ option_and_then (slice_get row) place
    next None = refl
    next (Some k) = let more : k + 1 ≡ suc k = omega arith in ap (slice_get (field ∷ row)) more

    by : (b : Bool) → (is_none (place_of name heads) ≡ false → is_none (field_at heads row name) ≡ false) →
        is_none (if b then Some 0 else option_map (λ k. k + 1) (place_of name heads)) ≡ false →
        is_none (option_and_then (slice_get (field ∷ row)) (if b then Some 0 else option_map (λ k. k + 1) (place_of name heads))) ≡ false
    by true later h = refl
    by false later h = ap is_none (next (place_of name heads)) ∙ later (shifted (place_of name heads) h)

-- The value of a row in a column of a number, and in one of a long number.
pub number-cell : (table : Table) (row : List Field) (name : List ℕ) (most : ℕ) (named : List ℕ) (place : ℕ) →
    length table.columns ≡ length row → is_none (place_of name table.columns) ≡ false →
    cell_fault named place (schema.key_of name (UpTo most)) (field_at table.columns row name) ≡ [] →
    (n : ℕ) × (cell_at table row (schema.key_of name (UpTo most)) ≡ Number n)
number-cell table row name most named place same there none =
    faultless-reads Number (schema.key_of name (UpTo most)) (number-reads name most) named place (field_at table.columns row name)
    (column-there table.columns row name same there) none

pub long-cell : (table : Table) (row : List Field) (name : List ℕ) (most : ℕ) (named : List ℕ) (place : ℕ) →
    length table.columns ≡ length row → is_none (place_of name table.columns) ≡ false →
    cell_fault named place (schema.key_of name (LongUpTo most)) (field_at table.columns row name) ≡ [] →
    (n : ℕ) × (cell_at table row (schema.key_of name (LongUpTo most)) ≡ Long n)
long-cell table row name most named place same there none =
    faultless-reads Long (schema.key_of name (LongUpTo most)) (long-reads name most) named place (field_at table.columns row name)
    (column-there table.columns row name same there) none

-- What follows for a row that is whole and without fault follows for each.
-- A plain row has as many fields as its table has columns, and a table without a fault has rows without one, whatever keys stood
-- before and at whatever place counting begins; so both are free in the induction, and the property of a row may ask both facts.
pub each-row : (s : Schema) (table : Table) (Good : List Field → Type 0) →
    ((place : ℕ) (row : List Field) → length table.columns ≡ length row → cell_faults s table place row ≡ [] → Good row) →
    (before : List (List Cell)) (place : ℕ) (rows : List (List Field)) → list_all (is_plain_row table.columns) rows ≡ true →
    row_faults s table before place rows ≡ [] → AllByRecursion Good rows
each-row s table Good good before place [] plain none = tt
each-row s table Good good before place (row ∷ rows) plain none =
    let parts = and_parts (is_plain_row table.columns row) (list_all (is_plain_row table.columns) rows) plain in
    let width = and_parts (length table.columns == length row) _ parts.0 in
    let here : row_fault s table before place row ≡ [] = front-empty (row_fault s table before place row) _ none in
    let later : row_faults s table (before ++ own_key (key_of s table row)) (place + 1) rows ≡ [] =
    rest-empty (row_fault s table before place row) _ none in (
      good place row (eqb-true (length table.columns) (length row) width.0) (front-empty (cell_faults s table place row) _ here),
      each-row s table Good good (before ++ own_key (key_of s table row)) (place + 1) rows parts.1 later,
    )

-- A table that is found among plain tables is plain, and has its name.
pub found-plain : (name : List ℕ) (tables : List Table) (table : Table) → find (has_name name) tables ≡ Some table →
    are_plain tables ≡ true → is_plain_table table ≡ true
found-plain name [] table found plain = absurd (cc)
found-plain name (one ∷ tables) table found plain =
    let parts = and_parts (is_plain_table one) (are_plain tables) plain in
    by (has_name name one) (λ later. found-plain name tables table later parts.1) parts.0 found
  where
    by : (b : Bool) → (find (has_name name) tables ≡ Some table → is_plain_table table ≡ true) → is_plain_table one ≡ true →
        (if b then Some one else find (has_name name) tables) ≡ Some table → is_plain_table table ≡ true
    by true later here e = let is : one ≡ table = cc in ap is_plain_table (sym is) ∙ here
    by false later here e = later e

pub found-name : (name : List ℕ) (tables : List Table) (table : Table) → find (has_name name) tables ≡ Some table → table.name ≡ name
found-name name [] table found = absurd (cc)
found-name name (one ∷ tables) table found = by (has_name name one) refl (found-name name tables table) found
  where
    by : (b : Bool) → has_name name one ≡ b → (find (has_name name) tables ≡ Some table → table.name ≡ name) →
        (if b then Some one else find (has_name name) tables) ≡ Some table → table.name ≡ name
    by true test later e = let is : one ≡ table = cc in ap (λ (t : Table). t.name) (sym is) ∙ (bytes_eq-Decides one.name name).0 test
    by false test later e = later e

pub each-faultless : (tables : List Table) (schemas : List Schema) → faults_of schemas tables ≡ [] →
    All (λ (s : Schema). table_faults s tables ≡ []) schemas
each-faultless tables [] none = All-nil (λ (s : Schema). table_faults s tables ≡ [])
each-faultless tables (s ∷ schemas) none =
    All-cons (λ (t : Schema). table_faults t tables ≡ []) s schemas (front-empty (table_faults s tables) (faults_of schemas tables) none)
    (each-faultless tables schemas (rest-empty (table_faults s tables) (faults_of schemas tables) none))

-- What is known of a table that is found among plain tables without a fault.
pub record IsRight (s : Schema) (table : Table) : Type 0 where
  pub whole : missing_columns s table ≡ []
  pub rows : row_faults s table [] 1 table.rows ≡ []
  pub plain : list_all (is_plain_row table.columns) table.rows ≡ true
  pub own : AllPairs (λ (earlier later : List Cell). same_cells later earlier ≡ false)
      (flat_map (λ (row : List Field). own_key (key_of s table row)) table.rows)

-- All that later lemmas ask of a table of the day, taken once from tables that are plain and without fault: its columns and rows have
-- none, its rows are as wide as its columns, and no two have one key. So the lemmas on X_HOF, X_FAHRER and REC_FRT look at one table
-- each.
pub is-right : (s : Schema) (tables : List Table) (table : Table) → are_plain tables ≡ true → table_faults s tables ≡ [] →
    HasOwnKeys tables s → table_of s tables ≡ Some table → IsRight s table
is-right s tables table plain none own found =
    let whole : is_plain_table table ≡ true = found-plain s.name tables table found plain in
    let columns = and_parts (are_plain_columns table.columns) (list_all (is_plain_row table.columns) table.rows)
    (and_parts (is_plain_name table.name) _ whole).1 in
    let inside : faults_in s (table_of s tables) ≡ [] = rest-empty _ (faults_in s (table_of s tables)) none in
    let P : Option Table → Type 0 = λ t. faults_in s t ≡ [] in
    let Q : Option Table → Type 0 = λ t. AllPairs (λ (earlier later : List Cell). same_cells later earlier ≡ false) (keys_in s t) in
    let of_table : missing_columns s table ++ row_faults s table [] 1 table.rows ≡ [] = subst P found inside in
    record {
      whole = front-empty (missing_columns s table) _ of_table;
      rows = rest-empty (missing_columns s table) _ of_table;
      plain = columns.1;
      own = subst Q found own;
    }

-- Rows whose keys are not the same make rows that a test tells apart.
module _ {A : Type 0} (test : A → A → Bool) (row_of : List Cell → ℕ → A) (s : Schema) (table : Table) (Good : List Field → Type 0)
    (keyed : (row : List Field) → own_key (key_of s table row) ≡ key_of s table row ∷ [])
    (tells : (row other : List Field) (place place' : ℕ) → Good row → Good other →
    same_cells (key_of s table other) (key_of s table row) ≡ false →
    IsOther test (row_of (cells s table row) place) (row_of (cells s table other) place')) where
  keys-mapped : (rows : List (List Field)) → flat_map (λ (row : List Field). own_key (key_of s table row)) rows ≡ map (key_of s table) rows
  keys-mapped [] = refl
  keys-mapped (row ∷ rows) =
      ap (λ (ks : List (List Cell)). ks ++ flat_map (λ (r : List Field). own_key (key_of s table r)) rows) (keyed row)
      ∙ ap (λ (ks : List (List Cell)). key_of s table row ∷ ks) (keys-mapped rows)

  others : (row : List Field) (rows : List (List Field)) (place from : ℕ) → Good row → AllByRecursion Good rows →
      AllByRecursion (λ (later : List Cell). same_cells later (key_of s table row) ≡ false) (map (key_of s table) rows) →
      AllByRecursion (IsOther test (row_of (cells s table row) place)) (typed row_of from (map (cells s table) rows))
  others row [] place from good all differ = tt
  others row (other ∷ rows) place from good all differ =
      (tells row other place from good all.0 differ.0, others row rows place (from + 1) good all.1 differ.1)

  typed-apart : (rows : List (List Field)) (from : ℕ) → AllByRecursion Good rows →
      AllPairs (λ (earlier later : List Cell). same_cells later earlier ≡ false) (map (key_of s table) rows) →
      Apart test (typed row_of from (map (cells s table) rows))
  typed-apart [] from all differ = tt
  typed-apart (row ∷ rows) from all differ =
      let D : List Cell → Type 0 = λ later. same_cells later (key_of s table row) ≡ false in
      let first : All D (map (key_of s table) rows) = λ j d within. differ zero (suc j) d (omega arith) (omega (arith, within)) in (
        others row rows from (from + 1) all.0 all.1 (recursion_from_All D (map (key_of s table) rows) first),
        typed-apart rows (from + 1) all.1 (λ i j d below within. differ (suc i) (suc j) d (omega (arith, below)) (omega (arith, within))),
      )

  -- so the rows of the table are apart
  -- The idea: no two rows have one key (`own`), and where both rows are good, different keys tell apart what is made of them
  -- (`tells`). The induction keeps the places of the rows free, since the typed rows are numbered and the test does not look at that
  -- number.
  pub rows-apart : IsRight s table → AllByRecursion Good table.rows → Apart test (typed row_of 0 (map (cells s table) table.rows))
  rows-apart right good =
      typed-apart table.rows 0 good
      (subst (AllPairs (λ (earlier later : List Cell). same_cells later earlier ≡ false)) (keys-mapped table.rows) right.own)
