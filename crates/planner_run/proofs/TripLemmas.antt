-- What tables without a fault have, and that a day has one answer.
use Rattle.std.proofs.Common.{◌≡◌, ◌≢◌, ℕ, zero, suc, ◌+◌, ◌<◌, ◌≤◌, ◌^◌, inl, inr, List, [], ◌∷◌, ◌++◌, length, Option, Some, None, refl, sym, ◌∙◌, ap, subst, arith, length-append, length-drop}
use Rattle.std.proofs.Common.{Bool, true, false, ◌&&◌, All, drop, slice_index_or, if◌then◌else◌}
use Rattle.std.specs.List.{find, list_all}
use Rattle.std.specs.Str.{bytes_eq}
use Rattle.std.proofs.lemmas.List.{length-map}
use Rattle.std.proofs.lemmas.List.Elements.{All-head, All-tail}
use Rattle.std.proofs.lemmas.Bool.{and_from, and_parts}
use Rattle.std.proofs.lemmas.Option.{same_Some}
use Rattle.vdv451_text.specs.declared.table.Field.{Field}
use Rattle.vdv451_text.specs.Plain.{are_plain_columns, is_plain_name, is_plain_row, is_plain_table}
use Rattle.vdv451_text.specs.declared.table.Table.{Table}
use Rattle.vdv452_rows.specs.declared.cell.Cell.{Cell}
use Rattle.vdv452_tables.specs.declared.reading.Needs.TheVariants as needs
use Rattle.vdv452_rows.specs.Schema as schema
use Rattle.vdv452_tables.specs.Calendar.{net_of, schemas_of, typed}
use Rattle.vdv452_rows.specs.Rows.{faults_in, faults_of, first, first_fault, rows_in, has_name, table_faults, table_of}
use Rattle.planner_run.specs.declared.status.Status.{Status}
use Rattle.planner_run.specs.Model.{IsTableRefusal}
use Rattle.planner_run.specs.Trips.{IsDayCause, IsRefused, picked_table, rows_at}

first_none : {A : Type 0} (xs : List A) → first xs ≡ None → xs ≡ []
first_none [] none = refl
first_none (x ∷ xs) none = cc

nothing : {A : Type 0} (xs : List A) → length xs ≡ 0 → xs ≡ []
nothing [] none = refl
nothing (x ∷ xs) none = absurd (omega (arith, none))

none_left : {A : Type 0} (xs ys : List A) → xs ++ ys ≡ [] → (xs ≡ []) × (ys ≡ [])
none_left xs ys none =
    let all : length (xs ++ ys) ≡ 0 = ap (λ t. length t) none in
    (nothing xs (omega (arith, all, length-append xs ys)), nothing ys (omega (arith, all, length-append xs ys)))

-- among tables without a fault REC_FRT is there
trips_in : (found : Option Table) → faults_in schema.trips found ≡ [] → (table : Table) × (found ≡ Some table)
trips_in None none = cc
trips_in (Some table) none = (table, refl)

pub trips_there : (tables : List Table) → first_fault (schemas_of needs.Calendar) tables ≡ None →
    (table : Table) × (table_of schema.trips tables ≡ Some table)
trips_there tables none =
    let all : faults_of (schemas_of needs.Calendar) tables ≡ [] = first_none _ none in
    let later = (none_left (table_faults schema.versions tables) _ all).1 in
    let last = (none_left (table_faults schema.days tables) _ later).1 in
    let trips = (none_left (table_faults schema.trips tables) _ last).0 in
    trips_in (table_of schema.trips tables) (none_left _ (faults_in schema.trips (table_of schema.trips tables)) trips).1

pub not_missing : (tables : List Table) (table : Table) → table_of schema.trips tables ≡ Some table → table_of schema.trips tables ≢ None
not_missing tables table is = λ none. let both : Some table ≡ None = sym is ∙ none in cc

pub all_trips_there : (tables : List Table) → first_fault (schemas_of needs.All) tables ≡ None →
    (table : Table) × (table_of schema.trips tables ≡ Some table)
all_trips_there tables none =
    let all : faults_of (schemas_of needs.All) tables ≡ [] = first_none _ none in
    let r1 = (none_left (table_faults schema.versions tables) _ all).1 in
    let r2 = (none_left (table_faults schema.days tables) _ r1).1 in
    let r3 = (none_left (table_faults schema.points tables) _ r2).1 in
    let r4 = (none_left (table_faults schema.sections tables) _ r3).1 in
    let r5 = (none_left (table_faults schema.runs tables) _ r4).1 in
    let r6 = (none_left (table_faults schema.group_dwells tables) _ r5).1 in
    let r7 = (none_left (table_faults schema.trip_dwells tables) _ r6).1 in
    let r8 = (none_left (table_faults schema.lines tables) _ r7).1 in
    let r9 = (none_left (table_faults schema.stops tables) _ r8).1 in
    let trips = (none_left (table_faults schema.trips tables) _ r9).0 in
    trips_in (table_of schema.trips tables) (none_left _ (faults_in schema.trips (table_of schema.trips tables)) trips).1

-- a trip for each row
typed_length : {A : Type 0} (row_of : List Cell → ℕ → A) (place : ℕ) (rows : List (List Cell)) →
    length (typed row_of place rows) ≡ length rows
typed_length row_of place [] = refl
typed_length row_of place (row ∷ rows) = omega (arith, typed_length row_of (place + 1) rows)

pub trips_count : (tables : List Table) (table : Table) → table_of schema.trips tables ≡ Some table →
    length (net_of needs.Calendar tables).trips ≡ length table.rows
trips_count tables table found =
    typed_length _ 0 (rows_in schema.trips (table_of schema.trips tables)) ∙ ap (λ t. length (rows_in schema.trips t)) found
    ∙ length-map table.rows _

-- a refusal of the tables in the words of the day's trips
pub trips_refused : (tables : List Table) (day : ℕ) (status : Status) → IsTableRefusal needs.Calendar tables status →
    IsRefused tables day status
trips_refused tables day status (inl memory) = inl memory
trips_refused tables day status (inr (fault, is, same)) = inr (let P : Status → Type 0 = IsDayCause tables day in subst P (sym same) is)

pub all_trips_count : (tables : List Table) (table : Table) → table_of schema.trips tables ≡ Some table →
    length (net_of needs.All tables).trips ≡ length table.rows
all_trips_count tables table found =
    typed_length _ 0 (rows_in schema.trips (table_of schema.trips tables)) ∙ ap (λ t. length (rows_in schema.trips t)) found
    ∙ length-map table.rows _

-- the table that a search finds next
pub found_at : (name : List ℕ) (tables : List Table) (i : ℕ) (d : Table) → i < length tables →
    bytes_eq (slice_index_or tables i d).name name ≡ true → find (has_name name) (drop i tables) ≡ Some (slice_index_or tables i d)
found_at name [] i d within is = absurd (omega (arith, within))
found_at name (table ∷ tables) zero d within is =
    let Goal : Bool → Type 0 = λ b. (if b then Some table else find (has_name name) tables) ≡ Some table in subst Goal (sym is) refl
found_at name (table ∷ tables) (suc i) d within is = found_at name tables i d (omega (arith, within)) is

pub not_at : (name : List ℕ) (tables : List Table) (i : ℕ) (d : Table) → i < length tables →
    bytes_eq (slice_index_or tables i d).name name ≡ false →
    find (has_name name) (drop i tables) ≡ find (has_name name) (drop (i + 1) tables)
not_at name [] i d within is = absurd (omega (arith, within))
not_at name (table ∷ tables) zero d within is = let Goal : Bool →
    Type 0 = λ b. (if b then Some table else find (has_name name) tables) ≡ find (has_name name) tables in subst Goal (sym is) refl
not_at name (table ∷ tables) (suc i) d within is =
    let next : suc i + 1 ≡ suc (i + 1) = omega arith in
    not_at name tables i d (omega (arith, within)) is ∙ ap (λ k. find (has_name name) (drop k (table ∷ tables))) (sym next)

-- rows of a plain table are plain
one_plain : (p : List Field → Bool) (rows : List (List Field)) (k : ℕ) (d : List Field) → list_all p rows ≡ true → k < length rows →
    p (slice_index_or rows k d) ≡ true
one_plain p [] k d all within = absurd (omega (arith, within))
one_plain p (row ∷ rows) zero d all within = (and_parts (p row) (list_all p rows) all).0
one_plain p (row ∷ rows) (suc k) d all within = one_plain p rows k d (and_parts (p row) (list_all p rows) all).1 (omega (arith, within))

rows_plain : (p : List Field → Bool) (rows : List (List Field)) (places : List ℕ) → list_all p rows ≡ true →
    All (λ place. place < length rows) places → list_all p (rows_at rows places) ≡ true
rows_plain p rows [] all within = refl
rows_plain p rows (place ∷ places) all within =
    and_from (p (slice_index_or rows place [])) (list_all p (rows_at rows places))
    (one_plain p rows place [] all (All-head (λ k. k < length rows) place places within))
    (rows_plain p rows places all (All-tail (λ k. k < length rows) place places within))

pub picked_plain : (table : Table) (places : List ℕ) → is_plain_table table ≡ true → All (λ place. place < length table.rows) places →
    is_plain_table (picked_table table places) ≡ true
picked_plain table places plain within =
    let name = and_parts (is_plain_name table.name) _ plain in
    let columns = and_parts (are_plain_columns table.columns) _ name.1 in
    and_from (is_plain_name table.name) _ name.0
    (and_from (are_plain_columns table.columns) _ columns.0 (rows_plain (is_plain_row table.columns) table.rows places columns.1 within))

pub one_plain_table : (table : Table) → is_plain_table table ≡ true → (is_plain_table table && true) ≡ true
one_plain_table table plain = and_from (is_plain_table table) true plain refl

-- past the end no table is found
pub none_behind : (name : List ℕ) (tables : List Table) (i : ℕ) → length tables ≤ i → find (has_name name) (drop i tables) ≡ None
none_behind name tables i past =
    let none : drop i tables ≡ [] = nothing (drop i tables) (omega (arith, past, length-drop i tables)) in rw none refl

-- what holds of all tables holds of one that is found
pub found_holds : (P : Table → Type 0) (name : List ℕ) (tables : List Table) (table : Table) → find (has_name name) tables ≡ Some table →
    All P tables → P table
found_holds P name [] table found all = cc
found_holds P name (first ∷ tables) table found all =
    let Goal : Bool → Type 0 = λ b. (if b then Some first else find (has_name name) tables) ≡ Some table → P table in
    let split : (b : Bool) → Goal b = λ b. elim b as Goal [
      | true ↦ λ e. let is : first ≡ table = same_Some first table e in subst P is (All-head P first tables all)
      | false ↦ λ e. found_holds P name tables table e (All-tail P first tables all)
    ] in split (has_name name first) found

-- few trips, where all tables have few rows
pub trips_sized : (tables : List Table) → first_fault (schemas_of needs.Calendar) tables ≡ None →
    All (λ table. length table.rows < 2 ^ 32) tables → length (net_of needs.Calendar tables).trips < 2 ^ 32
trips_sized tables none sized =
    let there = trips_there tables none in
    let few : length there.0.rows < 2 ^ 32 =
    found_holds (λ table. length table.rows < 2 ^ 32) schema.trips.name tables there.0 there.1 sized in
    omega (arith, few, trips_count tables there.0 there.1)
