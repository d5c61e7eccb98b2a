-- The trips, pools and groups of a day that is read have numbers of their own.
use Rattle.std.proofs.Common.{◌≡◌, ◌≢◌, ℕ, zero, suc, ◌+◌, ◌<◌, ◌≤◌, Bool, true, false, ◌&&◌, ◌==◌, if◌then◌else◌, nat_eq, nat_le, All, AllPairs, List, ◌∷◌, length, map, get_or, Option, Some, None, Result, Ok, Err, codes, slice_get, slice_index, sum_by, refl, sym, ap, ◌∙◌, subst, arith, []}
use Rattle.std.proofs.lemmas.Bool.{and_from, and_parts, eq-eqb, eqb-true}
use Rattle.std.proofs.lemmas.Bool.Decides.{nat_tests}
use Rattle.std.proofs.lemmas.List.Elements.{All-from_recursion, recursion_from_All}
use Rattle.std.proofs.lemmas.List.Kept.{AllPairs-cons}
use Rattle.std.proofs.lemmas.List.Sorted.{All-permutation, sum_by-IsPermutation}
use Rattle.std.proofs.lemmas.List.Sums.{sum_by-cons}
use Rattle.std.specs.List.{AllByRecursion}
use Rattle.plan_core.specs.declared.types.Point.{Point}
use Rattle.vdv451_text.specs.declared.table.Field.{Field}
use Rattle.vdv451_text.specs.declared.table.Table.{Table}
use Rattle.vdv452_rows.specs.declared.cell.Cell.{Cell}
use Rattle.vdv452_rows.specs.declared.cell.Cell.TheVariants.{Number, Long}
use Rattle.vdv452_tables.specs.declared.net.Net.{Net}
use Rattle.vdv452_tables.specs.declared.reading.Needs.TheVariants as needs
use Rattle.vdv452_rows.specs.declared.rows.TripRow.{TripRow}
use Rattle.vdv452_rows.specs.declared.schema.Schema.{Schema}
use Rattle.vdv452_rows.specs.Schema as schema
use Rattle.vdv452_tables.specs.Calendar.{net_of}
use Rattle.vdv452_rows.specs.Cells.{same_cells}
use Rattle.vdv452_tables.specs.LookUps.{area_on, course_on, links_from}
use Rattle.vdv452_rows.specs.Rows.{cell_at, cell_fault, cell_faults, cells, field_at, key_of, missing_column, missing_columns, rows_in, table_of}
use Rattle.vdv452_rows.specs.TypedRows.{number_row, trip_row, typed}
use Rattle.vdv452_rows.specs.Values.{long_in, number_of}
use Rattle.day_calendar.specs.declared.trips.DayTrip.{DayTrip}
use Rattle.day_calendar.specs.DayTrips.{day_trips, is_of_day, trips_from}
use Rattle.trip_times.specs.declared.trip.Trip.{Trip}
use Rattle.trip_times.specs.declared.trip.TripFault.{TripFault}
use Rattle.trip_times.specs.declared.trip.TripFault.TheVariants.{PastEnd}
use Rattle.trip_times.specs.Courses.{before_last, last_from}
use Rattle.trip_times.specs.Timing.{dwell_at, first_missing, run_seconds_of, run_time_of, timed, timed_if, timed_in, timed_on, trip_over}
use Rattle.plan_params.specs.declared.rows.group.Group.{Group}
use Rattle.plan_params.specs.declared.rows.pool.Pool.{Pool}
use Rattle.plan_params.specs.Settings.{group_of, groups_of, in_order, pool_of, pools_of}
use Rattle.vdv452_tables.proofs.OrderLemmas.{order_rises}
use Rattle.day_model.specs.declared.fault.DayModelFault.{DayModelFault}
use Rattle.day_model.specs.Building.{IsDayOf, joined, named, rows_at, timed_rows}
use Rattle.day_model.specs.Facts.{DayFacts}
use Rattle.check_answers.proofs.Apart.{Apart, IsOther, each, one_if, order-apart}
use Rattle.check_answers.proofs.OwnRows.{IsRight, each-row, front-empty, long-cell, not-when, number-cell, rest-empty, rows-apart}

false-from : (b : Bool) → (b ≡ true → ⊥) → b ≡ false
false-from true not = absurd (not refl)
false-from false not = refl

-- Numbers that are apart and do not fall rise.
module _ {A : Type 0} (number : A → ℕ) where
  abbrev pub by_number : A → A → Bool
  by_number a b = nat_eq (number b) (number a)

  pub other-numbers : (a b : A) → number a ≢ number b → IsOther by_number a b
  other-numbers a b differ =
      let m = number a in
      let n = number b in
      let one : nat_eq n m ≡ false = grind (arith, nat_tests) in
      let other : nat_eq m n ≡ false = grind (arith, nat_tests) in
      (one, other)

  pairs-apart : (xs : List A) → Apart by_number xs → AllPairs (IsOther by_number) xs
  pairs-apart [] apart = λ i j d below within. absurd (omega (arith, within))
  pairs-apart (x ∷ xs) apart =
      AllPairs-cons (IsOther by_number) x xs (All-from_recursion (IsOther by_number x) xs apart.0) (pairs-apart xs apart.1)

  above : (a b : A) → number a ≤ number b → IsOther by_number a b → number a < number b
  above a b low other =
      let m = number a in
      let n = number b in
      let test : nat_eq n m ≡ false = other.0 in
      grind (arith, nat_tests)

  -- What is put in order by number does not fall (`order_rises`), and putting in order keeps members apart (`order-apart`). Members
  -- that are apart by number and do not fall rise: at any two places the numbers are in order and not the same. By this pools and
  -- groups that have rows of their own have rising numbers, as certificates ask of the classes they tell of.
  pub order-rise : (xs : List A) → Apart by_number xs → AllPairs (λ (a b : A). number a < number b) (in_order number xs)
  order-rise xs apart = λ i j d below within.
      let sorted : List A = in_order number xs in
      above (get_or sorted i d) (get_or sorted j d) (order_rises number xs i j d below within)
      (pairs-apart sorted (order-apart by_number number xs apart) i j d below within)

-- A test of made things that says of each two no more than the test of what they are made from finds them apart as well. So rows that
-- are apart by their first column make pools and groups that are apart by number.
map-apart : {A B : Type 0} (test : A → A → Bool) (test' : B → B → Bool) (f : A → B) →
    ((a b : A) → IsOther test a b → IsOther test' (f a) (f b)) → (xs : List A) → Apart test xs → Apart test' (map f xs)
map-apart test test' f step [] apart = tt
map-apart {A = A} test test' f step (x ∷ xs) apart = (mapped xs apart.0, map-apart test test' f step xs apart.1)
  where
    mapped : (ys : List A) → AllByRecursion (IsOther test x) ys → AllByRecursion (IsOther test' (f x)) (map f ys)
    mapped [] others = tt
    mapped (y ∷ ys) others = (step x y others.0, mapped ys others.1)

-- X_HOF and X_FAHRER: their rows are numbered by their first columns, which are their keys.
abbrev row_number : List ℕ → ℕ
row_number row = slice_index row 0

differ-cells : (m n : ℕ) → same_cells (Number m ∷ []) (Number n ∷ []) ≡ false → n ≢ m
differ-cells m n differ = λ same.
    let own : same_cells (Number m ∷ []) (Number m ∷ []) ≡ true = and_from (m == m) true (eq-eqb m m refl) refl in
    let P : ℕ → Type 0 = λ k. same_cells (Number m ∷ []) (Number k ∷ []) ≡ false in
    let bad : same_cells (Number m ∷ []) (Number m ∷ []) ≡ false = subst P same differ in
    let no : true ≡ false = sym own ∙ bad in
    cc

-- The two readings of a key meet here. Tables without a fault have keys whose cells differ; the planner's rows have numbers, which are
-- what these cells hold. So where cells of a number differ, the numbers of the rows do, and the rows are apart.
tells-number : (a b : List ℕ) (one other : Cell) (m n : ℕ) → row_number a ≡ number_of one → row_number b ≡ number_of other →
    one ≡ Number m → other ≡ Number n → same_cells (other ∷ []) (one ∷ []) ≡ false →
    IsOther (by_number row_number) a b
tells-number a b one other m n first second is_one is_other differ =
    let P : Cell → Type 0 = λ c. same_cells (c ∷ []) (one ∷ []) ≡ false in
    let Q : Cell → Type 0 = λ c. same_cells (Number n ∷ []) (c ∷ []) ≡ false in
    let apart : m ≢ n = differ-cells n m (subst Q is_one (subst P is_other differ)) in
    let here : row_number a ≡ m = first ∙ ap number_of is_one in
    let there : row_number b ≡ n = second ∙ ap number_of is_other in
    other-numbers row_number a b (λ same. apart (sym here ∙ (same ∙ there)))

abbrev HasNumber : Table → List ℕ → List Field → Type 0
HasNumber table name row = (n : ℕ) × (cell_at table row (schema.key name) ≡ Number n)

depot-number : (table : Table) → missing_columns schema.depots table ≡ [] → (place : ℕ) (row : List Field) →
    length table.columns ≡ length row → cell_faults schema.depots table place row ≡ [] → HasNumber table (codes "HOF_NR") row
depot-number table whole place row same none =
    number-cell table row (codes "HOF_NR") 4294967295 schema.depots.name place same
    (not-when _ _ (front-empty (missing_column schema.depots.name table.columns (schema.key (codes "HOF_NR"))) _ whole))
    (front-empty (cell_fault schema.depots.name place (schema.key (codes "HOF_NR")) (field_at table.columns row (codes "HOF_NR"))) _ none)

driver-number : (table : Table) → missing_columns schema.drivers table ≡ [] → (place : ℕ) (row : List Field) →
    length table.columns ≡ length row → cell_faults schema.drivers table place row ≡ [] → HasNumber table (codes "GRUPPE_NR") row
driver-number table whole place row same none =
    number-cell table row (codes "GRUPPE_NR") 4294967295 schema.drivers.name place same
    (not-when _ _ (front-empty (missing_column schema.drivers.name table.columns (schema.key (codes "GRUPPE_NR"))) _ whole))
    (front-empty (cell_fault schema.drivers.name place (schema.key (codes "GRUPPE_NR")) (field_at table.columns row (codes "GRUPPE_NR"))) _
    none)

depots-apart : (table : Table) → IsRight schema.depots table →
    Apart (by_number row_number) (typed number_row 0 (map (cells schema.depots table) table.rows))
depots-apart table right =
    rows-apart (by_number row_number) number_row schema.depots table (HasNumber table (codes "HOF_NR")) (λ row. refl)
    (λ row other place place' (m, is) (n, is') differ. tells-number (number_row (cells schema.depots table row) place)
    (number_row (cells schema.depots table other) place')
    (cell_at table row (schema.key (codes "HOF_NR"))) (cell_at table other (schema.key (codes "HOF_NR"))) m n refl refl is is' differ)
    right (each-row schema.depots table (HasNumber table (codes "HOF_NR"))
    (depot-number table right.whole) [] 1 table.rows right.plain right.rows)

drivers-apart : (table : Table) → IsRight schema.drivers table →
    Apart (by_number row_number) (typed number_row 0 (map (cells schema.drivers table) table.rows))
drivers-apart table right =
    rows-apart (by_number row_number) number_row schema.drivers table (HasNumber table (codes "GRUPPE_NR")) (λ row. refl)
    (λ row other place place' (m, is) (n, is') differ. tells-number (number_row (cells schema.drivers table row) place)
    (number_row (cells schema.drivers table other) place')
    (cell_at table row (schema.key (codes "GRUPPE_NR"))) (cell_at table other (schema.key (codes "GRUPPE_NR"))) m n refl refl is is' differ)
    right (each-row schema.drivers table (HasNumber table (codes "GRUPPE_NR"))
    (driver-number table right.whole) [] 1 table.rows right.plain right.rows)

-- of a table that is there or not
abbrev pub IsRightIn : Schema → Option Table → Type 0
IsRightIn s None = Unit {0}
IsRightIn s (Some table) = IsRight s table

depots-in : (found : Option Table) → IsRightIn schema.depots found →
    Apart (by_number row_number) (typed number_row 0 (rows_in schema.depots found))
depots-in None right = tt
depots-in (Some table) right = depots-apart table right

drivers-in : (found : Option Table) → IsRightIn schema.drivers found →
    Apart (by_number row_number) (typed number_row 0 (rows_in schema.drivers found))
drivers-in None right = tt
drivers-in (Some table) right = drivers-apart table right

-- The numbers of the pools and of the groups that are read rise.
-- The proof: each row of X_HOF has a number in its key column (`depot-number`), no two keys are the same, so rows are apart by number
-- (`depots-apart`), and the pools made of them, put in order, rise (`order-rise`). Groups go the same way from X_FAHRER. A day without
-- the table has no pools, and nothing is to be shown.
pub pools-rise : (tables : List Table) → IsRightIn schema.depots (table_of schema.depots tables) →
    AllPairs (λ (earlier later : Pool). earlier.number < later.number) (pools_of (net_of needs.All tables))
pools-rise tables right =
    let rows : List (List ℕ) = typed number_row 0 (rows_in schema.depots (table_of schema.depots tables)) in
    order-rise (λ (pool : Pool). pool.number) (map pool_of rows)
    (map-apart (by_number row_number) (by_number (λ (pool : Pool). pool.number)) pool_of (λ a b other. other) rows
    (depots-in (table_of schema.depots tables) right))

pub groups-rise : (tables : List Table) → IsRightIn schema.drivers (table_of schema.drivers tables) →
    AllPairs (λ (earlier later : Group). earlier.number < later.number) (groups_of (net_of needs.All tables))
groups-rise tables right =
    let rows : List (List ℕ) = typed number_row 0 (rows_in schema.drivers (table_of schema.drivers tables)) in
    order-rise (λ (group : Group). group.number) (map group_of rows)
    (map-apart (by_number row_number) (by_number (λ (group : Group). group.number)) group_of (λ a b other. other) rows
    (drivers-in (table_of schema.drivers tables) right))

-- REC_FRT: its rows are apart by version and number.
abbrev same_trip : TripRow → TripRow → Bool
same_trip a b = nat_eq b.version a.version && nat_eq b.fid a.fid

record HasTrip (table : Table) (row : List Field) : Type 0 where
  pub version : ℕ
  pub fid : ℕ
  pub version_cell : cell_at table row (schema.key (codes "BASIS_VERSION")) ≡ Number version
  pub fid_cell : cell_at table row (schema.trip_key (codes "FRT_FID")) ≡ Long fid

trip-number : (table : Table) → missing_columns schema.trips table ≡ [] → (place : ℕ) (row : List Field) →
    length table.columns ≡ length row → cell_faults schema.trips table place row ≡ [] → HasTrip table row
trip-number table whole place row same none =
    let first = missing_column schema.trips.name table.columns (schema.key (codes "BASIS_VERSION")) in
    let second = missing_column schema.trips.name table.columns (schema.trip_key (codes "FRT_FID")) in
    let cell = cell_fault schema.trips.name place (schema.key (codes "BASIS_VERSION"))
    (field_at table.columns row (codes "BASIS_VERSION")) in
    let later = cell_fault schema.trips.name place (schema.trip_key (codes "FRT_FID")) (field_at table.columns row (codes "FRT_FID")) in
    let version = number-cell table row (codes "BASIS_VERSION") 4294967295 schema.trips.name place same
    (not-when _ _ (front-empty first _ whole)) (front-empty cell _ none) in
    let fid = long-cell table row (codes "FRT_FID") 1000000000000000000 schema.trips.name place same
    (not-when _ _ (front-empty second _ (rest-empty first _ whole))) (front-empty later _ (rest-empty cell _ none)) in
    record { version = version.0; fid = fid.0; version_cell = version.1; fid_cell = fid.1 }

same-key : (version fid : ℕ) → same_cells (Number version ∷ Long fid ∷ []) (Number version ∷ Long fid ∷ []) ≡ true
same-key version fid = and_from (version == version) _ (eq-eqb version version refl) (and_from (fid == fid) true (eq-eqb fid fid refl) refl)

differ-keys : (v f w g : ℕ) → same_cells (Number w ∷ Long g ∷ []) (Number v ∷ Long f ∷ []) ≡ false → v ≡ w → f ≡ g → ⊥
differ-keys v f w g differ versions fids =
    let P : ℕ → Type 0 = λ k. same_cells (Number w ∷ Long g ∷ []) (Number k ∷ Long f ∷ []) ≡ false in
    let Q : ℕ → Type 0 = λ k. same_cells (Number w ∷ Long g ∷ []) (Number w ∷ Long k ∷ []) ≡ false in
    let no : true ≡ false = sym (same-key w g) ∙ subst Q fids (subst P versions differ) in
    cc

-- The same for a key of two cells: rows of REC_FRT with different keys differ in the version or in the number, and so no test that
-- asks both to be the same passes either way round.
tells-trip : (table : Table) (row other : List Field) (place place' : ℕ) → HasTrip table row → HasTrip table other →
    same_cells (key_of schema.trips table other) (key_of schema.trips table row) ≡ false →
    IsOther same_trip (trip_row (cells schema.trips table row) place) (trip_row (cells schema.trips table other) place')
unfolding trip_row
tells-trip table row other place place' is is' differ =
    let a : TripRow = trip_row (cells schema.trips table row) place in
    let b : TripRow = trip_row (cells schema.trips table other) place' in
    let av : a.version ≡ is.version = ap number_of is.version_cell in
    let af : a.fid ≡ is.fid = ap (λ (c : Cell). long_in (Some c)) is.fid_cell in
    let bv : b.version ≡ is'.version = ap number_of is'.version_cell in
    let bf : b.fid ≡ is'.fid = ap (λ (c : Cell). long_in (Some c)) is'.fid_cell in
    let version = schema.key (codes "BASIS_VERSION") in
    let fid = schema.trip_key (codes "FRT_FID") in
    let K : Cell → Cell → Cell → Cell → Type 0 = λ c d e f. same_cells (c ∷ d ∷ []) (e ∷ f ∷ []) ≡ false in
    let one = subst (λ (c : Cell). K c (cell_at table other fid) (cell_at table row version) (cell_at table row fid)) is'.version_cell
    differ in
    let two = subst (λ (c : Cell). K (Number is'.version) c (cell_at table row version) (cell_at table row fid)) is'.fid_cell one in
    let three = subst (λ (c : Cell). K (Number is'.version) (Long is'.fid) c (cell_at table row fid)) is.version_cell two in
    let four = subst (λ (c : Cell). K (Number is'.version) (Long is'.fid) (Number is.version) c) is.fid_cell three in
    let none : a.version ≡ b.version → a.fid ≡ b.fid → ⊥ =
    λ v f. differ-keys is.version is.fid is'.version is'.fid four (sym av ∙ (v ∙ bv)) (sym af ∙ (f ∙ bf)) in (
      false-from (nat_eq b.version a.version && nat_eq b.fid a.fid) (λ e. let parts =
          and_parts (nat_eq b.version a.version) (nat_eq b.fid a.fid) e in none (sym (eqb-true b.version a.version parts.0))
          (sym (eqb-true b.fid a.fid parts.1))),
      false-from (nat_eq a.version b.version && nat_eq a.fid b.fid) (λ e. let parts =
          and_parts (nat_eq a.version b.version) (nat_eq a.fid b.fid) e in none (eqb-true a.version b.version parts.0)
          (eqb-true a.fid b.fid parts.1)),
    )

trips-apart : (table : Table) → IsRight schema.trips table → Apart same_trip (typed trip_row 0 (map (cells schema.trips table) table.rows))
trips-apart table right =
    rows-apart same_trip trip_row schema.trips table (HasTrip table) (λ row. refl) (tells-trip table) right
    (each-row schema.trips table (HasTrip table) (trip-number table right.whole) [] 1 table.rows right.plain right.rows)

-- So no number stands twice among the rows of a version.
abbrev count_if : {A : Type 0} → (A → Bool) → List A → ℕ
count_if test xs = sum_by (λ x. one_if (test x)) xs

none-passes : {A : Type 0} (p : A → Bool) (xs : List A) → AllByRecursion (λ (x : A). p x ≡ false) xs → count_if p xs ≡ 0
none-passes p [] all = refl
none-passes p (x ∷ xs) all =
    let every = sum_by-cons (λ y. one_if (p y)) x xs in
    let off : one_if (p x) ≡ 0 = ap one_if all.0 in
    let rest = none-passes p xs all.1 in
    omega (arith, every, off, rest)

-- Counting: if any two that pass `p` are the same by the test, and no two of the list are, then at most one passes. For behind one
-- that passes none does (`none-passes`), and one that fails counts nothing. With `one-row` no number stands twice among the rows of a
-- version.
apart-once : {A : Type 0} (test : A → A → Bool) (p : A → Bool) → ((a b : A) → p a ≡ true → p b ≡ true → test a b ≡ true) → (xs : List A) →
    Apart test xs → count_if p xs ≤ 1
apart-once test p same [] apart = omega arith
apart-once {A = A} test p same (x ∷ xs) apart = by (p x) refl (apart-once test p same xs apart.1)
  where
    by : (b : Bool) → p x ≡ b → count_if p xs ≤ 1 → count_if p (x ∷ xs) ≤ 1
    by true e rest =
        let none : count_if p xs ≡ 0 =
        none-passes p xs (each (IsOther test x) (λ (y : A). p y ≡ false)
        (λ y other. false-from (p y) (λ h. let no : true ≡ false = sym (same x y e h) ∙ other.0 in cc)) xs apart.0) in
        let one : one_if (p x) ≡ 1 = ap one_if e in
        omega (arith, sum_by-cons (λ y. one_if (p y)) x xs, one, none)
    by false e rest =
        let off : one_if (p x) ≡ 0 = ap one_if e in
        omega (arith, sum_by-cons (λ y. one_if (p y)) x xs, off, rest)

module _ (version kind : ℕ) where
  abbrev is_trip : ℕ → TripRow → Bool
  is_trip fid row = nat_eq row.version version && nat_eq row.fid fid

  one-row : (fid : ℕ) (a b : TripRow) → is_trip fid a ≡ true → is_trip fid b ≡ true → same_trip a b ≡ true
  one-row fid a b h k =
      let one = and_parts (nat_eq a.version version) (nat_eq a.fid fid) h in
      let other = and_parts (nat_eq b.version version) (nat_eq b.fid fid) k in
      let versions : b.version ≡ a.version = eqb-true b.version version other.0 ∙ sym (eqb-true a.version version one.0) in
      let fids : b.fid ≡ a.fid = eqb-true b.fid fid other.1 ∙ sym (eqb-true a.fid fid one.1) in
      and_from (nat_eq b.version a.version) (nat_eq b.fid a.fid) (eq-eqb b.version a.version versions) (eq-eqb b.fid a.fid fids)

  abbrev is_fid : ℕ → DayTrip → Bool
  is_fid fid day = nat_eq day.fid fid

  -- a day has no more trips of a number than its version has rows
  -- A day picks of the rows of its version those of its day type that are passenger trips, and each picked trip has the number of its
  -- row. So each trip that is counted has a row that is counted too, by induction over the rows with the place as a free number.
  day-few : (fid place : ℕ) (rows : List TripRow) → count_if (is_fid fid) (trips_from version kind place rows) ≤ count_if (is_trip fid) rows
  day-few fid place [] = omega arith
  day-few fid place (row ∷ rows) = by (is_of_day version kind row) refl (day-few fid (place + 1) rows)
    where
      by : (b : Bool) → is_of_day version kind row ≡ b →
          count_if (is_fid fid) (trips_from version kind (place + 1) rows) ≤ count_if (is_trip fid) rows →
          count_if (is_fid fid) (if b then record {
            start = row.start;
            fid = row.fid;
            place =
                place;
          } ∷ trips_from version kind (place + 1) rows else trips_from version kind (place + 1) rows) ≤ count_if (is_trip fid)
          (row ∷ rows)
      by true e rest =
          let own : nat_eq row.version version ≡ true = (and_parts (row.version == version) ((row.kind == kind) && (row.mode == 1)) e).0 in
          let same : one_if (is_trip fid row) ≡ one_if (nat_eq row.fid fid) = ap (λ (b : Bool). one_if (b && nat_eq row.fid fid)) own in
          let day : DayTrip = record { start = row.start; fid = row.fid; place = place } in
          omega (
            arith,
            rest,
            same,
            sum_by-cons (λ d. one_if (is_fid fid d)) day (trips_from version kind (place + 1) rows),
            sum_by-cons (λ r. one_if (is_trip fid r)) row rows,
          )
      by false e rest = omega (arith, rest, sum_by-cons (λ r. one_if (is_trip fid r)) row rows)

  -- the place of a trip of a day is that of the row of its number
  record IsAt (rows : List TripRow) (place : ℕ) (day : DayTrip) : Type 0 where
    pub k : ℕ
    pub place_is : day.place ≡ place + k
    pub row : TripRow
    pub at : slice_get rows k ≡ Some row
    pub fid : row.fid ≡ day.fid

  -- By induction over the rows, with the place from which they are counted left free: the row at hand is at place 0 of the rest, and
  -- what is found behind it is one place further. From this a trip's place leads back to its row, whatever order the trips are put in
  -- later.
  days-at : (place : ℕ) (rows : List TripRow) → AllByRecursion (IsAt rows place) (trips_from version kind place rows)
  days-at place [] = tt
  days-at place (row ∷ rows) =
      let next : (day : DayTrip) → IsAt rows (place + 1) day → IsAt (row ∷ rows) place day = λ day is. let past =
      is.place_is in record { k = suc is.k; place_is = omega (arith, past); row = is.row; at = is.at; fid = is.fid } in
      by (is_of_day version kind row)
      (each (IsAt rows (place + 1)) (IsAt (row ∷ rows) place) next (trips_from version kind (place + 1) rows)
      (days-at (place + 1) rows))
    where
      by : (b : Bool) → AllByRecursion (IsAt (row ∷ rows) place) (trips_from version kind (place + 1) rows) →
          AllByRecursion (IsAt (row ∷ rows) place) (if b then record {
            start = row.start;
            fid = row.fid;
            place =
                place;
          } ∷ trips_from version kind (place + 1) rows else trips_from version kind (place + 1) rows)
      by true rest = (record { k = zero; place_is = omega arith; row = row; at = refl; fid = refl }, rest)
      by false rest = rest

  fids-at : (rows : List TripRow) (days : List DayTrip) → AllByRecursion (IsAt rows 0) days →
      map (λ (r : TripRow). r.fid) (rows_at rows (map (λ (d : DayTrip). d.place) days)) ≡ map (λ (d : DayTrip). d.fid) days
  fids-at rows [] all = refl
  fids-at rows (day ∷ days) all =
      let is = all.0 in
      let place : is.k ≡ day.place = (let past = is.place_is in omega (arith, past)) in
      let at : slice_get rows day.place ≡ Some is.row = ap (slice_get rows) (sym place) ∙ is.at in
      let places : List ℕ = map (λ (d : DayTrip). d.place) days in
      let here : rows_at rows (day.place ∷ places) ≡ is.row ∷ rows_at rows places = rw at refl in
      ap (map (λ (r : TripRow). r.fid)) here
      ∙ (ap (λ (n : ℕ). n ∷ map (λ (r : TripRow). r.fid) (rows_at rows places)) is.fid
      ∙ ap (λ (ns : List ℕ). day.fid ∷ ns) (fids-at rows days all.1))

-- A trip has the number of its row.
module _ (row : TripRow) (trip : Trip) where
  over-fid : (from to : Point) (seconds : ℕ) (b : Bool) → (if b then Ok (trip_over row from to seconds) else Err PastEnd) ≡ Ok trip →
      trip.fid ≡ row.fid
  over-fid from to seconds true e = let is : trip_over row from to seconds ≡ trip = cc in sym (ap (λ (t : Trip). t.fid) is)
  over-fid from to seconds false e = absurd (cc)

  if-fid : (missing : Option (Point × Point)) (from to : Point) (seconds : ℕ) → timed_if row missing from to seconds ≡ Ok trip →
      trip.fid ≡ row.fid
  if-fid None from to seconds e = over-fid from to seconds (nat_le (row.start + seconds) 172800) e
  if-fid (Some link) from to seconds e = absurd (cc)

  on-fid : (time_of : Point × Point → Option ℕ) (dwell_of : Point → ℕ) (course : List Point) →
      timed_on time_of dwell_of row course ≡ Ok trip → trip.fid ≡ row.fid
  on-fid time_of dwell_of [] e = absurd (cc)
  on-fid time_of dwell_of (first ∷ []) e = absurd (cc)
  on-fid time_of dwell_of (first ∷ (next ∷ course)) e =
      if-fid (first_missing time_of (links_from first (next ∷ course))) first (last_from next course)
      (run_seconds_of time_of (links_from first (next ∷ course)) + sum_by dwell_of (before_last next course)) e

  in-fid : (net : Net) (version : ℕ) (area : Option ℕ) → timed_in net version row area ≡ Ok trip → trip.fid ≡ row.fid
  in-fid net version None e = absurd (cc)
  in-fid net version (Some area) e =
      on-fid (run_time_of net version area row.group) (dwell_at net version row) (course_on net version row.line row.variant) e

  timed-fid : (net : Net) (version : ℕ) → timed net version row ≡ Ok trip → trip.fid ≡ row.fid
  timed-fid net version e = in-fid net version (area_on net version row.line row.variant) e

pub joins : (fid : ℕ) (one : Result Trip TripFault) (others : Result (List Trip) DayModelFault) (trips : List Trip) →
    joined (named fid one) others ≡ Ok trips →
    (trip : Trip) × (more : List Trip) × (one ≡ Ok trip) × (others ≡ Ok more) × (trips ≡ trip ∷ more)
joins fid (Err fault) others trips e = absurd (cc)
joins fid (Ok trip) (Err fault) trips e = absurd (cc)
joins fid (Ok trip) (Ok more) trips e = (trip, more, refl, refl, cc)

timed-fids : (net : Net) (version : ℕ) (rows : List TripRow) (trips : List Trip) → timed_rows net version rows ≡ Ok trips →
    map (λ (t : Trip). t.fid) trips ≡ map (λ (r : TripRow). r.fid) rows
timed-fids net version [] trips e = let none : trips ≡ [] = cc in ap (map (λ (t : Trip). t.fid)) none
timed-fids net version (row ∷ rows) trips e =
    let parts = joins row.fid (timed net version row) (timed_rows net version rows) trips e in
    let here : parts.0.fid ≡ row.fid = timed-fid row parts.0 net version parts.2 in
    let rest : map (λ (t : Trip). t.fid) parts.1 ≡ map (λ (r : TripRow). r.fid) rows = timed-fids net version rows parts.1 parts.3 in
    ap (map (λ (t : Trip). t.fid)) parts.4
    ∙ (ap (λ (n : ℕ). n ∷ map (λ (t : Trip). t.fid) parts.1) here ∙ ap (λ (ns : List ℕ). row.fid ∷ ns) rest)

-- A number that is counted at most once stands at most once.
count-map : {A : Type 0} (number : A → ℕ) (n : ℕ) (xs : List A) →
    count_if (λ x. nat_eq (number x) n) xs ≡ count_if (λ m. nat_eq m n) (map number xs)
count-map number n [] = refl
count-map number n (x ∷ xs) =
    sum_by-cons (λ y. one_if (nat_eq (number y) n)) x xs
    ∙ (ap (λ (c : ℕ). one_if (nat_eq (number x) n) + c) (count-map number n xs)
    ∙ sym (sum_by-cons (λ m. one_if (nat_eq m n)) (number x) (map number xs)))

module _ {A : Type 0} (number : A → ℕ) where
  not-there : (n : ℕ) (xs : List A) → count_if (λ x. nat_eq (number x) n) xs ≡ 0 → AllByRecursion (λ (x : A). n ≢ number x) xs
  not-there n [] none = tt
  not-there n (x ∷ xs) none =
      let all = sum_by-cons (λ y. one_if (nat_eq (number y) n)) x xs in (
        (λ same. let own : one_if (nat_eq (number x) n) ≡ 1 = ap one_if (eq-eqb (number x) n (sym same)) in omega (arith, own, all, none)),
        not-there n xs (omega (arith, all, none)),
      )

  -- If every number is counted at most once, no two places have one number: the number of the first member is counted there already,
  -- so none behind it has it. Counts do not depend on the order, which is why the proof of `trips-differ` goes by counts and not by
  -- pairs.
  once-differ : (xs : List A) → ((n : ℕ) → count_if (λ x. nat_eq (number x) n) xs ≤ 1) → AllPairs (λ (a b : A). number a ≢ number b) xs
  once-differ [] few = λ i j d below within. absurd (omega (arith, within))
  once-differ (x ∷ xs) few =
      let all : (n : ℕ) → count_if (λ y. nat_eq (number y) n) (x ∷ xs) ≡ one_if (nat_eq (number x) n) + count_if
      (λ y. nat_eq (number y) n) xs = λ n. sum_by-cons (λ y. one_if (nat_eq (number y) n)) x xs in
      let own : one_if (nat_eq (number x) (number x)) ≡ 1 = ap one_if (eq-eqb (number x) (number x) refl) in
      let none : count_if (λ y. nat_eq (number y) (number x)) xs ≡ 0 = omega (arith, few (number x), all (number x), own) in
      AllPairs-cons (λ (a b : A). number a ≢ number b) x xs
      (All-from_recursion (λ (y : A). number x ≢ number y) xs (not-there (number x) xs none))
      (once-differ xs (λ n. omega (arith, few n, all n)))

-- The trips of a day have the numbers of the rows that its calendar has, in their order.
-- The proof goes from trips to timed rows (`timed-fids`), from rows to places, and from places back to the picked trips (`fids-at`);
-- that each place is one of a row of its number survives putting the trips in order, since it is said of each trip alone.
pub day-fids : (net : Net) (facts : DayFacts) (day : IsDayOf net facts.kind facts) →
    map (λ (t : Trip). t.fid) facts.trips ≡ map (λ (d : DayTrip). d.fid) day.rows.ordered
day-fids net facts day =
    let rows : List TripRow = net.trips in
    let version = facts.kind.version in
    let kind = facts.kind.kind in
    let days = day.rows in
    let ordered : List DayTrip = days.ordered in
    let is_at : All (IsAt version kind rows 0) ordered =
    All-permutation (IsAt version kind rows 0) (day_trips rows version kind) ordered days.same
    (All-from_recursion (IsAt version kind rows 0) (day_trips rows version kind) (days-at version kind 0 rows)) in
    let places : rows_at rows facts.rows ≡ rows_at rows (map (λ (d : DayTrip). d.place) ordered) = ap (rows_at rows) days.are in
    timed-fids net version (rows_at rows facts.rows) facts.trips day.trips
    ∙ (ap (map (λ (r : TripRow). r.fid)) places
    ∙ fids-at version kind rows ordered (recursion_from_All (IsAt version kind rows 0) ordered is_at))

-- No two trips of a day have one FRT_FID.
-- A chain of counts of one number: among the trips of the day as often as among the picked trips in order (`day-fids`), as often as
-- before they were put in order, no more often than among the rows of the version (`day-few`), and there at most once, as the rows
-- have keys of their own (`apart-once`). So `HaveOwnNumbers` holds of a day that is read: the checker finds each trip by FRT_FID.
pub trips-differ : (tables : List Table) (table : Table) (facts : DayFacts) → table_of schema.trips tables ≡ Some table →
    IsRight schema.trips table → IsDayOf (net_of needs.All tables) facts.kind facts →
    AllPairs (λ (earlier later : Trip). earlier.fid ≢ later.fid) facts.trips
trips-differ tables table facts found right day =
    let rows : List TripRow = (net_of needs.All tables).trips in
    let version = facts.kind.version in
    let kind = facts.kind.kind in
    let Rows : Option Table → Type 0 = λ t. Apart same_trip (typed trip_row 0 (rows_in schema.trips t)) in
    let apart : Apart same_trip rows = subst Rows (sym found) (trips-apart table right) in
    let days = day.rows in
    let ordered : List DayTrip = days.ordered in
    let fids = day-fids (net_of needs.All tables) facts day in
    once-differ (λ (t : Trip). t.fid) facts.trips (λ n.
    let same : count_if (λ (t : Trip). nat_eq t.fid n) facts.trips ≡ count_if (is_fid version kind n) ordered =
    count-map (λ (t : Trip). t.fid) n facts.trips
    ∙ (ap (count_if (λ m. nat_eq m n)) fids ∙ sym (count-map (λ (d : DayTrip). d.fid) n ordered)) in
    let moved : count_if (is_fid version kind n) ordered ≡ count_if (is_fid version kind n) (day_trips rows version kind) =
    sum_by-IsPermutation (λ (d : DayTrip). one_if (is_fid version kind n d)) (day_trips rows version kind) ordered days.same in
    omega (
      arith,
      same,
      moved,
      day-few version kind n 0 rows,
      apart-once same_trip (is_trip version kind n) (one-row version kind n) rows apart,
    ))
