-- The rows that are read have the ranges of their columns.
use Rattle.std.proofs.Common.{◌≡◌, ℕ, ◌+◌, ◌<◌, ◌≤◌, ◌^◌, Bool, true, false, if◌then◌else◌, List, [], ◌∷◌, Option, Some, None, All, IfSome, length, map, nat_le, slice_index, unwrap_or, refl, sym, subst, ap, arith, suc, zero, ℤ, pos, negsuc, codes}
use Rattle.std.proofs.lemmas.Bool.Decides.{nat_tests}
use Rattle.std.proofs.lemmas.List.Elements.{All-cons, All-nil}
use Rattle.std.specs.List.{find}
use Rattle.std.specs.Option.{option_and_then}
use Rattle.vdv451_text.specs.declared.table.Field.{Field}
use Rattle.vdv451_text.specs.declared.table.Field.TheVariants.{Num, Text, Raw, Empty}
use Rattle.vdv451_text.specs.declared.table.Table.{Table}
use Rattle.vdv452_rows.specs.declared.cell.Cell.{Cell}
use Rattle.vdv452_rows.specs.declared.cell.Cell.TheVariants.{Nothing, Number, Long, Word}
use Rattle.vdv452_tables.specs.declared.reading.Needs.{Needs}
use Rattle.vdv452_tables.specs.declared.reading.Needs.TheVariants as needs
use Rattle.vdv452_rows.specs.declared.schema.Column.{Column}
use Rattle.vdv452_rows.specs.declared.schema.Domain.{Domain}
use Rattle.vdv452_rows.specs.declared.schema.Domain.TheVariants.{UpTo, LongUpTo, AnyWord, Unseen}
use Rattle.vdv452_rows.specs.declared.schema.Schema.{Schema}
use Rattle.vdv452_tables.specs.Calendar.{net_of, rows_as}
use Rattle.vdv452_rows.specs.Cells.{is_empty_field, long_up_to, number_up_to, value_in, whole_number}
use Rattle.vdv452_tables.specs.Ranges.{Fits, HasRanges, IsLength, IsTime, greatest_at, greatest_in}
use Rattle.vdv452_rows.specs.Rows.{cell_at, cell_in, cells, field_at, has_name, rows_in, table_of}
use Rattle.vdv452_rows.specs.Schema as schema
use Rattle.vdv452_rows.specs.TypedRows.{typed, trip_row, section_row, stop_row, run_row, group_dwell_row, trip_dwell_row, dead_row, number_row}
use Rattle.vdv452_rows.specs.Values.{long_in, number_of, some_number}

-- no number of the value is above the domain's greatest one
abbrev Within : Domain → Option Cell → Type 0
Within domain found = (number_of (unwrap_or found Nothing) ≤ greatest_in domain)
    × (long_in (Some (unwrap_or found Nothing)) ≤ greatest_in domain)

le_from : (m n : ℕ) → nat_le m n ≡ true → m ≤ n
le_from m n e = grind (arith, nat_tests)

number_within : (most n : ℕ) (b : Bool) → nat_le n most ≡ b → Within (UpTo most) (if b then Some (Number n) else None)
number_within most n true e = (le_from n most e, omega arith)
number_within most n false e = (omega arith, omega arith)

long_within : (most n : ℕ) (b : Bool) → nat_le n most ≡ b → Within (LongUpTo most) (if b then Some (Long n) else None)
long_within most n true e = (omega arith, le_from n most e)
long_within most n false e = (omega arith, omega arith)

read_within : (most : ℕ) (n : Option ℤ) → Within (UpTo most) (option_and_then (number_up_to most) n)
read_within most None = (omega arith, omega arith)
read_within most (Some (pos n)) = number_within most n (nat_le n most) refl
read_within most (Some (negsuc n)) = (omega arith, omega arith)

long_read_within : (most : ℕ) (n : Option ℤ) → Within (LongUpTo most) (option_and_then (long_up_to most) n)
long_read_within most None = (omega arith, omega arith)
long_read_within most (Some (pos n)) = long_within most n (nat_le n most) refl
long_read_within most (Some (negsuc n)) = (omega arith, omega arith)

-- A value that a column's domain gives is not above the domain's greatest one, by the cases of the domain: a number is given only
-- after the test against this bound, and a word or an unseen value holds no number. A cell that may be empty, or whose field is
-- missing or wrong, has nothing in it, which counts as 0.
value_within : (domain : Domain) (field : Field) → Within domain (value_in domain field)
value_within (UpTo most) field = read_within most (whole_number field)
value_within (LongUpTo most) field = long_read_within most (whole_number field)
value_within AnyWord (Num n) = (omega arith, omega arith)
value_within AnyWord (Text text) = (omega arith, omega arith)
value_within AnyWord (Raw bytes) = (omega arith, omega arith)
value_within AnyWord Empty = (omega arith, omega arith)
value_within Unseen field = (omega arith, omega arith)

empty_within : (domain : Domain) (may_be_empty : Bool) → Within domain (if may_be_empty then Some Nothing else None)
empty_within domain true = (omega arith, omega arith)
empty_within domain false = (omega arith, omega arith)

field_within : (column : Column) (field : Field) (b : Bool) →
    Within column.domain (if b then (if column.may_be_empty then Some Nothing else None) else value_in column.domain field)
field_within column field true = empty_within column.domain column.may_be_empty
field_within column field false = value_within column.domain field

cell_within : (column : Column) (field : Option Field) → Within column.domain (Some (cell_in column field))
cell_within column None = (omega arith, omega arith)
cell_within column (Some field) = field_within column field (is_empty_field field)

some_within : (cell : Cell) (most : ℕ) → number_of cell ≤ most → IfSome (some_number (Some cell)) (λ n. n ≤ most)
some_within Nothing most within = tt
some_within (Number n) most within = within
some_within (Long n) most within = tt
some_within (Word w) most within = tt

module _ (table : Table) (row : List Field) where
  number_at_most : (column : Column) → number_of (cell_at table row column) ≤ greatest_in column.domain
  number_at_most column = (cell_within column (field_at table.columns row column.name)).0

  long_at_most : (column : Column) → long_in (Some (cell_at table row column)) ≤ greatest_in column.domain
  long_at_most column = (cell_within column (field_at table.columns row column.name)).1

  width_of : (columns : List Column) → length (map number_of (map (cell_at table row) columns)) ≡ length columns
  width_of [] = refl
  width_of (column ∷ columns) = ap suc (width_of columns)

  value_fits : (columns : List Column) (place : ℕ) → place < length (map number_of (map (cell_at table row) columns)) →
      slice_index (map number_of (map (cell_at table row) columns)) place ≤ greatest_at columns place
  value_fits [] place within = absurd (omega arith)
  value_fits (column ∷ columns) zero within = number_at_most column
  value_fits (column ∷ columns) (suc place) within = value_fits columns place (omega arith)

  fits : (columns : List Column) → Fits columns (map number_of (map (cell_at table row) columns))
  fits columns = record { width = width_of columns; within = value_fits columns }

module _ {A : Type 0} (P : A → Type 0) (row_of : List Cell → ℕ → A) (s : Schema) (each : (table : Table) (row : List Field) (place : ℕ) →
    P (row_of (cells s table row) place)) where
  typed_all : (table : Table) (rows : List (List Field)) (place : ℕ) → All P (typed row_of place (map (cells s table) rows))
  typed_all table [] place = All-nil P
  typed_all table (row ∷ rows) place =
      All-cons P (row_of (cells s table row) place) _ (each table row place) (typed_all table rows (place + 1))

  found_all : (found : Option Table) → All P (typed row_of 0 (rows_in s found))
  found_all None = All-nil P
  found_all (Some table) = typed_all table table.rows 0

  -- What holds of the typed row of every row of fields holds of all rows of a table that is read, for an absent table too. By
  -- induction on the rows; the number of the row takes no part. It suffices then to show each range for one row of fields, by the
  -- domain of its column (`number_at_most`, `long_at_most`).
  rows_all : (tables : List Table) → All P (rows_as row_of s tables)
  rows_all tables = found_all (table_of s tables)

module _ {A : Type 0} (row_of : List Cell → ℕ → A) (s : Schema) where
  typed_length : (table : Table) (rows : List (List Field)) (place : ℕ) →
      length (typed row_of place (map (cells s table) rows)) ≡ length rows
  typed_length table [] place = refl
  typed_length table (row ∷ rows) place = ap suc (typed_length table rows (place + 1))

  found_few : (found : Option Table) → IfSome found (λ table. length table.rows < 2 ^ 32) →
      length (typed row_of 0 (rows_in s found)) < 2 ^ 32
  found_few None few = omega arith
  found_few (Some table) few = subst (λ n. n < 2 ^ 32) (sym (typed_length table table.rows 0)) few

  table_few : (tables : List Table) → All (λ table. length table.rows < 2 ^ 32) tables →
      IfSome (find (has_name s.name) tables) (λ table. length table.rows < 2 ^ 32)
  table_few [] few = tt
  table_few (table ∷ tables) few = by (has_name s.name table) (table_few tables (λ k d within. few (suc k) d (omega arith)))
    where
      by : (b : Bool) → IfSome (find (has_name s.name) tables) (λ t. length t.rows < 2 ^ 32) →
          IfSome (if b then Some table else find (has_name s.name) tables) (λ t. length t.rows < 2 ^ 32)
      by true later = few 0 table (omega arith)
      by false later = later

  rows_few : (tables : List Table) → All (λ table. length table.rows < 2 ^ 32) tables → length (rows_as row_of s tables) < 2 ^ 32
  rows_few tables few = found_few (table_of s tables) (table_few tables few)

number_rows : (s : Schema) (tables : List Table) → All (Fits s.columns) (rows_as number_row s tables)
number_rows s tables = rows_all (Fits s.columns) number_row s (λ table row place. fits table row s.columns) tables

-- The rows that are read have the ranges of their columns, whatever the tables are: each number was read within its column's
-- domain, and the number of rows is that of a table of few rows. It does not need the tables to be right, since a wrong field gives
-- nothing. It is the contract's promise of ranges, by which sums of times in the crates above stay within their numbers.
pub ranges_of : (needs : Needs) (tables : List Table) → All (λ table. length table.rows < 2 ^ 32) tables → HasRanges (net_of needs tables)
unfolding trip_row section_row run_row group_dwell_row trip_dwell_row dead_row
ranges_of needs.Calendar tables few = record {
  few_trips = rows_few trip_row schema.trips tables few;
  few_stops = omega arith;
  starts = rows_all (λ row. IsTime row.start) trip_row schema.trips
      (λ table row place. number_at_most table row (schema.seconds (codes "FRT_START"))) tables;
  fids = rows_all (λ row. row.fid ≤ 1000000000000000000) trip_row schema.trips
      (λ table row place. long_at_most table row (schema.trip_key (codes "FRT_FID"))) tables;
  lengths = All-nil _;
  runs = All-nil _;
  group_dwells = All-nil _;
  trip_dwells = All-nil _;
  deads = All-nil _;
  plan = All-nil _;
  depots = All-nil _;
  line_types = All-nil _;
  reliefs = All-nil _;
  ways = All-nil _;
  drivers = All-nil _;
}
ranges_of needs.All tables few = record {
  few_trips = rows_few trip_row schema.trips tables few;
  few_stops = rows_few stop_row schema.stops tables few;
  starts = rows_all (λ row. IsTime row.start) trip_row schema.trips
      (λ table row place. number_at_most table row (schema.seconds (codes "FRT_START"))) tables;
  fids = rows_all (λ row. row.fid ≤ 1000000000000000000) trip_row schema.trips
      (λ table row place. long_at_most table row (schema.trip_key (codes "FRT_FID"))) tables;
  lengths = rows_all (λ row. IfSome row.length IsLength) section_row schema.sections
      (λ table row place. some_within (cell_at table row (schema.some_metres (codes "SEL_LAENGE"))) 1000000
      (number_at_most table row (schema.some_metres (codes "SEL_LAENGE")))) tables;
  runs = rows_all (λ row. IsTime row.time) run_row schema.runs
      (λ table row place. number_at_most table row (schema.seconds (codes "SEL_FZT"))) tables;
  group_dwells = rows_all (λ row. IsTime row.time) group_dwell_row schema.group_dwells
      (λ table row place. number_at_most table row (schema.seconds (codes "HP_HZT"))) tables;
  trip_dwells = rows_all (λ row. IsTime row.time) trip_dwell_row schema.trip_dwells
      (λ table row place. number_at_most table row (schema.seconds (codes "FRT_HZT_ZEIT"))) tables;
  deads = rows_all (λ row. IsTime row.time) dead_row schema.deads
      (λ table row place. number_at_most table row (schema.seconds (codes "UEB_FAHRZEIT"))) tables;
  plan = number_rows schema.plan tables;
  depots = number_rows schema.depots tables;
  line_types = number_rows schema.line_types tables;
  reliefs = number_rows schema.reliefs tables;
  ways = number_rows schema.ways tables;
  drivers = number_rows schema.drivers tables;
}
