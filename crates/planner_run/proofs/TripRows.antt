-- REC_FRT has exactly one row of the day's version for each trip of the day.
use Rattle.std.proofs.Common.{◌≡◌, ℕ, zero, suc, ◌+◌, ◌<◌, ◌≤◌, ◌^◌, Bool, true, false, if◌then◌else◌, ◌&&◌, ◌==◌, List, [], ◌∷◌, ◌++◌, length, map, filter, Option, Some, None, Result, Ok, Err, All, AllPairs, IfSome, IsTrue, codes, pos, ℤ, nat_le, slice_get, slice_index_or, refl, sym, ◌∙◌, ap, subst, arith}
use Rattle.std.proofs.lemmas.Bool.{and_parts, and_from, eqb-true, eq-eqb}
use Rattle.std.proofs.lemmas.List.Elements.{All-cons, All-nil, All-head, All-tail, All-map, All-same, All-weaker}
use Rattle.std.proofs.lemmas.List.Sorted.{All-permutation}
use Rattle.std.specs.List.{find, flat_map, list_all}
use Rattle.std.specs.Prelude.{sum_by}
use Rattle.plan_core.specs.declared.types.Point.{Point}
use Rattle.vdv451_text.specs.declared.table.Field.{Field}
use Rattle.vdv451_text.specs.declared.table.Table.{Table}
use Rattle.vdv451_text.specs.Plain.{are_plain, are_plain_columns, is_plain_name, is_plain_row, is_plain_table}
use Rattle.vdv452_rows.specs.declared.cell.Cell.{Cell}
use Rattle.vdv452_rows.specs.declared.cell.Cell.TheVariants.{Number, Long}
use Rattle.vdv452_tables.specs.declared.net.Net.{Net}
use Rattle.vdv452_tables.specs.declared.reading.Needs.TheVariants as needs
use Rattle.vdv452_rows.specs.declared.rows.TripRow.{TripRow}
use Rattle.vdv452_rows.specs.declared.schema.Schema.{Schema}
use Rattle.vdv452_rows.specs.Schema as schema
use Rattle.vdv452_tables.specs.Calendar.{net_of, schemas_of}
use Rattle.vdv452_rows.specs.Cells.{same_cells}
use Rattle.vdv452_tables.specs.LookUps.{area_on, course_on, links_from}
use Rattle.vdv452_rows.specs.Rows.{HasOwnKeys, cell_at, cells, faults_in, faults_of, first_fault, has_name, key_of, keys_in, missing_columns, own_key, row_faults, rows_in, table_faults, table_of}
use Rattle.vdv452_rows.specs.TypedRows.{trip_row, typed}
use Rattle.vdv452_rows.specs.Values.{long_in, number_of}
use Rattle.vdv452_tables.proofs.KeyLemmas.{own_of}
use Rattle.day_calendar.specs.declared.trips.DayTrip.{DayTrip}
use Rattle.day_calendar.specs.DayTrips.{AreDayRows, day_trips, is_of_day, trips_from}
use Rattle.trip_times.specs.declared.trip.Trip.{Trip}
use Rattle.trip_times.specs.declared.trip.TripFault.{TripFault}
use Rattle.trip_times.specs.declared.trip.TripFault.TheVariants.{PastEnd}
use Rattle.trip_times.specs.Courses.{before_last, last_from}
use Rattle.trip_times.specs.Timing.{dwell_at, first_missing, run_seconds_of, run_time_of, timed, timed_if, timed_in, timed_on, trip_over}
use Rattle.day_model.specs.declared.fault.DayModelFault.{DayModelFault}
use Rattle.day_model.specs.Building.{IsDayOf, joined, named, rows_at, timed_rows}
use Rattle.day_model.specs.Facts.{DayFacts}
use Rattle.number_tables.specs.Outlines.{number_in}
use Rattle.umlauf_write.specs.Trips.{HasOneRow, is_number, is_row_of}
use Rattle.planner_run.proofs.RowReads.{IsRead, first_none, front_empty, rest_empty, rows_read}

-- no item passes where each that passes has the one key, which none has
none_more : {A : Type 0} (p : A → Bool) (key : A → List Cell) (one : List Cell) (xs : List A) → All (λ x. p x ≡ true → key x ≡ one) xs →
    same_cells one one ≡ true → All (λ later. same_cells later one ≡ false) (map key xs) → length (filter p xs) ≡ 0
none_more p key one [] keyed same differ = refl
none_more {A = A} p key one (x ∷ xs) keyed same differ =
    by (p x) refl (none_more p key one xs (All-tail (λ y. p y ≡ true → key y ≡ one) x xs keyed) same
    (All-tail (λ later. same_cells later one ≡ false) (key x) (map key xs) differ))
  where
    by : (b : Bool) → p x ≡ b → length (filter p xs) ≡ 0 → length (if b then x ∷ filter p xs else filter p xs) ≡ 0
    by true passes rest =
        let is : key x ≡ one = All-head (λ y. p y ≡ true → key y ≡ one) x xs keyed passes in
        let other : same_cells (key x) one ≡ false = All-head (λ later. same_cells later one ≡ false) (key x) (map key xs) differ in
        let P : List Cell → Type 0 = λ k. same_cells k one ≡ false in
        let not_itself : same_cells one one ≡ false = subst P is other in
        absurd (cc)
    by false fails rest = rest

-- at most one passes where each that passes has the one key, and no two have one key
-- The idea: what passes the test has one key, and no two in the list have the same key. So behind one that passes none does
-- (`none_more`). Here the test is to be the row of a trip, and the key is version and number in REC_FRT, which no two rows share
-- where tables have no fault.
at_most_one : {A : Type 0} (p : A → Bool) (key : A → List Cell) (one : List Cell) (xs : List A) → All (λ x. p x ≡ true → key x ≡ one) xs →
    same_cells one one ≡ true → AllPairs (λ earlier later. same_cells later earlier ≡ false) (map key xs) → length (filter p xs) ≤ 1
at_most_one p key one [] keyed same differ = omega arith
at_most_one {A = A} p key one (x ∷ xs) keyed same differ =
    by (p x) refl (at_most_one p key one xs (All-tail (λ y. p y ≡ true → key y ≡ one) x xs keyed) same
    (λ i j d below within. differ (suc i) (suc j) d (omega (arith, below)) (omega (arith, within))))
  where
    others : All (λ later. same_cells later (key x) ≡ false) (map key xs)
    others = λ j d within. differ zero (suc j) d (omega arith) (omega (arith, within))

    by : (b : Bool) → p x ≡ b → length (filter p xs) ≤ 1 → length (if b then x ∷ filter p xs else filter p xs) ≤ 1
    by true passes rest =
        let is : key x ≡ one = All-head (λ y. p y ≡ true → key y ≡ one) x xs keyed passes in
        let P : List Cell → Type 0 = λ k. All (λ later. same_cells later k ≡ false) (map key xs) in
        let none : length (filter p xs) ≡ 0 =
        none_more p key one xs (All-tail (λ y. p y ≡ true → key y ≡ one) x xs keyed) same (subst P is others) in
        omega (arith, none)
    by false fails rest = rest

-- one that passes is counted
some_passes : {A : Type 0} (p : A → Bool) (xs : List A) (k : ℕ) (d : A) → k < length xs → p (slice_index_or xs k d) ≡ true →
    1 ≤ length (filter p xs)
some_passes p [] k d within passes = absurd (omega (arith, within))
some_passes {A = A} p (x ∷ xs) zero d within passes = by (p x) passes
  where
    by : (b : Bool) → b ≡ true → 1 ≤ length (if b then x ∷ filter p xs else filter p xs)
    by true passes = omega arith
    by false passes = absurd (cc)
some_passes {A = A} p (x ∷ xs) (suc k) d within passes = by (p x) (some_passes p xs k d (omega (arith, within)) passes)
  where
    by : (b : Bool) → 1 ≤ length (filter p xs) → 1 ≤ length (if b then x ∷ filter p xs else filter p xs)
    by true later = omega arith
    by false later = later

-- the key of a row of REC_FRT with this version and number
abbrev trip_key : ℕ → ℕ → List Cell
trip_key version fid = Number version ∷ Long fid ∷ []

same_key : (version fid : ℕ) → same_cells (trip_key version fid) (trip_key version fid) ≡ true
same_key version fid = and_from (version == version) _ (eq-eqb version version refl) (and_from (fid == fid) true (eq-eqb fid fid refl) refl)

module _ (table : Table) where
  -- a row that is that of a trip has its key
  keyed : (version fid : ℕ) (row : List Field) → IsRead table row → is_row_of table.columns version fid row ≡ true →
      key_of schema.trips table row ≡ trip_key version fid
  keyed version fid row read passes =
      let P : Option ℤ → Option ℤ → Type 0 = λ v f. (is_number version v && is_number fid f) ≡ true in
      let tests : ((read.version == version) && (read.fid == fid)) ≡ true =
      subst (λ (v : Option ℤ). P v (Some (pos read.fid))) read.version_in
      (subst (λ (f : Option ℤ). P (number_in table.columns row (codes "BASIS_VERSION")) f) read.fid_in passes) in
      let parts = and_parts (read.version == version) (read.fid == fid) tests in
      let version_is : read.version ≡ version = eqb-true read.version version parts.0 in
      let fid_is : read.fid ≡ fid = eqb-true read.fid fid parts.1 in
      let version_cell : cell_at table row (schema.key (codes "BASIS_VERSION")) ≡ Number version =
      read.version_cell ∙ ap (λ n. Number n) version_is in
      let fid_cell : cell_at table row (schema.trip_key (codes "FRT_FID")) ≡ Long fid = read.fid_cell ∙ ap (λ n. Long n) fid_is in
      (λ i. version_cell i ∷ fid_cell i ∷ [])

  -- a row whose cells have the version is that of the trip of its number
  found_itself : (version : ℕ) (row : List Field) → IsRead table row →
      number_of (cell_at table row (schema.key (codes "BASIS_VERSION"))) ≡ version →
      is_row_of table.columns version (long_in (Some (cell_at table row (schema.trip_key (codes "FRT_FID"))))) row ≡ true
  found_itself version row read is =
      let fid_cell : Cell = cell_at table row (schema.trip_key (codes "FRT_FID")) in
      let version_is : read.version ≡ version = sym (ap number_of read.version_cell) ∙ is in
      let fid_is : read.fid ≡ long_in (Some fid_cell) = sym (ap (λ (c : Cell). long_in (Some c)) read.fid_cell) in
      and_from
      (is_number version (number_in table.columns row (codes "BASIS_VERSION")))
      (is_number (long_in (Some fid_cell)) (number_in table.columns row (codes "FRT_FID")))
      (ap (is_number version) read.version_in ∙ eq-eqb read.version version version_is)
      (ap (is_number (long_in (Some fid_cell))) read.fid_in ∙ eq-eqb read.fid (long_in (Some fid_cell)) fid_is)

  -- each row has a key, so there is a key for each row
  keys_mapped : (rows : List (List Field)) →
      flat_map (λ row. own_key (key_of schema.trips table row)) rows ≡ map (key_of schema.trips table) rows
  keys_mapped [] = refl
  keys_mapped (row ∷ rows) = ap (λ keys. key_of schema.trips table row ∷ keys) (keys_mapped rows)

  module _ (read : All (IsRead table) table.rows) where
    -- no trip has two rows
    one_at_most : (version fid : ℕ) →
        AllPairs (λ earlier later. same_cells later earlier ≡ false)
        (flat_map (λ row. own_key (key_of schema.trips table row)) table.rows) →
        length (filter (is_row_of table.columns version fid) table.rows) ≤ 1
    one_at_most version fid own =
        let P : List (List Cell) → Type 0 = λ keys. AllPairs (λ earlier later. same_cells later earlier ≡ false) keys in
        at_most_one (is_row_of table.columns version fid) (key_of schema.trips table) (trip_key version fid) table.rows
        (λ k d within. keyed version fid (slice_index_or table.rows k d) (read k d within)) (same_key version fid)
        (subst P (keys_mapped table.rows) own)

    -- where the cells of a row have the version, there is a row of the trip of their number
    one_at_least : (version : ℕ) →
        All (λ row. number_of (cell_at table row (schema.key (codes "BASIS_VERSION"))) ≡ version →
        1 ≤ length (filter (is_row_of table.columns version (long_in (Some (cell_at table row (schema.trip_key (codes "FRT_FID"))))))
        table.rows)) table.rows
    one_at_least version = λ k d within is.
        let row : List Field = slice_index_or table.rows k d in
        some_passes (is_row_of table.columns version (long_in (Some (cell_at table row (schema.trip_key (codes "FRT_FID")))))) table.rows k
        d within (found_itself version row (read k d within) is)

-- what holds of the version and the number of each row of cells holds of each typed row
-- The typed rows of a table stand in the order of its rows, each made of the row's cells. So a property of two cells of each row is
-- one of two fields of each typed row; by this a fact of the rows that are copied becomes one of the rows that the day is built from.
typed_trips : (P : ℕ → ℕ → Type 0) (table : Table) (place : ℕ) (rows : List (List Field)) →
    All (λ row. P (number_of (cell_at table row (schema.key (codes "BASIS_VERSION"))))
    (long_in (Some (cell_at table row (schema.trip_key (codes "FRT_FID")))))) rows →
    All (λ (trip : TripRow). P trip.version trip.fid) (typed trip_row place (map (cells schema.trips table) rows))
unfolding trip_row
typed_trips P table place [] all = All-nil (λ (trip : TripRow). P trip.version trip.fid)
typed_trips P table place (row ∷ rows) all =
    let Q : List Field → Type 0 =
    λ r. P (number_of (cell_at table r (schema.key (codes "BASIS_VERSION"))))
    (long_in (Some (cell_at table r (schema.trip_key (codes "FRT_FID"))))) in
    All-cons (λ (trip : TripRow). P trip.version trip.fid) (trip_row (cells schema.trips table row) place) _ (All-head Q row rows all)
    (typed_trips P table (place + 1) rows (All-tail Q row rows all))

module _ (version kind : ℕ) where
  -- the place of a trip of a day, counted from that of the first row, is that of a row of the version
  abbrev At : ℕ → List TripRow → DayTrip → Type 0
  At place trips day = (k : ℕ) × (day.place ≡ place + k) × IfSome (slice_get trips k) (λ (trip : TripRow). trip.version ≡ version)

  first_version : (trip : TripRow) → is_of_day version kind trip ≡ true → trip.version ≡ version
  first_version trip e = eqb-true trip.version version (and_parts (trip.version == version) ((trip.kind == kind) && (trip.mode == 1)) e).0

  days_at : (place : ℕ) (trips : List TripRow) → All (At place trips) (trips_from version kind place trips)
  days_at place [] = All-nil (At place [])
  days_at place (trip ∷ trips) =
      let later : (day : DayTrip) → At (place + 1) trips day → At place (trip ∷ trips) day =
      λ day at. (suc at.0, omega (arith, at.1), at.2) in
      by (is_of_day version kind trip) refl
      (All-weaker (At (place + 1) trips) (At place (trip ∷ trips)) later (trips_from version kind (place + 1) trips)
      (days_at (place + 1) trips))
    where
      by : (b : Bool) → is_of_day version kind trip ≡ b → All (At place (trip ∷ trips)) (trips_from version kind (place + 1) trips) →
          All (At place (trip ∷ trips))
          (if b then record { start = trip.start; fid = trip.fid; place = place } ∷ trips_from version kind (place + 1) trips else
          trips_from version kind (place + 1) trips)
      by true e rest = All-cons (At place (trip ∷ trips)) (record { start = trip.start; fid = trip.fid; place = place })
          (trips_from version kind (place + 1) trips) (zero, omega arith, first_version trip e) rest
      by false e rest = rest

  -- the places of the rows of a day are those of rows of its version
  -- The places that a day keeps are those of rows that were picked by version and day type while the table was gone through
  -- (`days_at`), and only their order was changed. So each of them is the place of a row of the day's version.
  placed : (trips : List TripRow) (places : List ℕ) → AreDayRows trips version kind places →
      All (λ place. IfSome (slice_get trips place) (λ (trip : TripRow). trip.version ≡ version)) places
  placed trips places rows =
      let Here : ℕ → Type 0 = λ place. IfSome (slice_get trips place) (λ (trip : TripRow). trip.version ≡ version) in
      let first : (day : DayTrip) → At zero trips day → Here day.place =
      λ day at. let e : at.0 ≡ day.place = omega (arith, at.1) in subst Here e at.2 in
      let found : All (λ (day : DayTrip). Here day.place) (day_trips trips version kind) =
      All-weaker (At zero trips) (λ (day : DayTrip). Here day.place) first (day_trips trips version kind) (days_at zero trips) in
      let ordered = All-permutation (λ (day : DayTrip). Here day.place) (day_trips trips version kind) rows.ordered rows.same found in
      let P : List ℕ → Type 0 = λ ps. All Here ps in
      subst P (sym rows.are) (All-map Here (λ (day : DayTrip). day.place) rows.ordered ordered)

all_got : (P : TripRow → Type 0) (rows : List TripRow) (place : ℕ) → All P rows → IfSome (slice_get rows place) P
all_got P [] place all = tt
all_got P (row ∷ rows) zero all = All-head P row rows all
all_got P (row ∷ rows) (suc place) all = all_got P rows place (All-tail P row rows all)

-- what follows of a row from what holds at its place
rows_hold : (V H : TripRow → Type 0) (rows : List TripRow) (places : List ℕ) → All (λ (row : TripRow). V row → H row) rows →
    All (λ place. IfSome (slice_get rows place) V) places → All H (rows_at rows places)
rows_hold V H rows [] all there = All-nil H
rows_hold V H rows (place ∷ places) all there =
    by (slice_get rows place) refl (all_got (λ (row : TripRow). V row → H row) rows place all)
    (All-head (λ k. IfSome (slice_get rows k) V) place places there)
    (rows_hold V H rows places all (All-tail (λ k. IfSome (slice_get rows k) V) place places there))
  where
    by : (found : Option TripRow) → slice_get rows place ≡ found → IfSome found (λ (row : TripRow). V row → H row) → IfSome found V →
        All H (rows_at rows places) → All H (rows_at rows (place ∷ places))
    by None e follows here rest = let same : rows_at rows (place ∷ places) ≡ rows_at rows places = rw e refl in
        All-same H (rows_at rows (place ∷ places)) (rows_at rows places) same rest
    by (Some row) e follows here rest =
        let same : rows_at rows (place ∷ places) ≡ row ∷ rows_at rows places = rw e refl in
        All-same H (rows_at rows (place ∷ places)) (row ∷ rows_at rows places) same
        (All-cons H row (rows_at rows places) (follows here) rest)

-- a trip has the number of its row
module _ (row : TripRow) (trip : Trip) where
  over_fid : (from to : Point) (seconds : ℕ) (b : Bool) → (if b then Ok (trip_over row from to seconds) else Err PastEnd) ≡ Ok trip →
      trip.fid ≡ row.fid
  over_fid from to seconds true e = let is : trip_over row from to seconds ≡ trip = cc in sym (ap (λ (t : Trip). t.fid) is)
  over_fid from to seconds false e = absurd (cc)

  if_fid : (missing : Option (Point × Point)) (from to : Point) (seconds : ℕ) →
      timed_if row missing from to seconds ≡ Ok trip → trip.fid ≡ row.fid
  if_fid None from to seconds e = over_fid from to seconds (nat_le (row.start + seconds) 172800) e
  if_fid (Some link) from to seconds e = absurd (cc)

  on_fid : (time_of : Point × Point → Option ℕ) (dwell_of : Point → ℕ) (course : List Point) →
      timed_on time_of dwell_of row course ≡ Ok trip → trip.fid ≡ row.fid
  on_fid time_of dwell_of [] e = absurd (cc)
  on_fid time_of dwell_of (first ∷ []) e = absurd (cc)
  on_fid time_of dwell_of (first ∷ (next ∷ course)) e =
      if_fid (first_missing time_of (links_from first (next ∷ course))) first (last_from next course)
      (run_seconds_of time_of (links_from first (next ∷ course)) + sum_by dwell_of (before_last next course)) e

  in_fid : (net : Net) (version : ℕ) (area : Option ℕ) → timed_in net version row area ≡ Ok trip → trip.fid ≡ row.fid
  in_fid net version None e = absurd (cc)
  in_fid net version (Some area) e =
      on_fid (run_time_of net version area row.group) (dwell_at net version row) (course_on net version row.line row.variant) e

  timed_fid : (net : Net) (version : ℕ) → timed net version row ≡ Ok trip → trip.fid ≡ row.fid
  timed_fid net version e = in_fid net version (area_on net version row.line row.variant) e

joins : (fid : ℕ) (one : Result Trip TripFault) (others : Result (List Trip) DayModelFault) (trips : List Trip) →
    joined (named fid one) others ≡ Ok trips →
    (trip : Trip) × (more : List Trip) × (one ≡ Ok trip) × (others ≡ Ok more) × (trips ≡ trip ∷ more)
joins fid (Err fault) others trips e = absurd (cc)
joins fid (Ok trip) (Err fault) trips e = absurd (cc)
joins fid (Ok trip) (Ok more) trips e = (trip, more, refl, refl, cc)

-- what holds of the number of each row holds of the number of each trip
timed_hold : (Q : ℕ → Type 0) (net : Net) (version : ℕ) (rows : List TripRow) (trips : List Trip) → timed_rows net version rows ≡ Ok trips →
    All (λ (row : TripRow). Q row.fid) rows → All (λ (trip : Trip). Q trip.fid) trips
timed_hold Q net version [] trips e all =
    let none : trips ≡ [] = cc in All-same (λ (trip : Trip). Q trip.fid) trips [] none (All-nil (λ (trip : Trip). Q trip.fid))
timed_hold Q net version (row ∷ rows) trips e all =
    let parts = joins row.fid (timed net version row) (timed_rows net version rows) trips e in
    let here : Q parts.0.fid =
    subst Q (sym (timed_fid row parts.0 net version parts.2)) (All-head (λ (r : TripRow). Q r.fid) row rows all) in
    let rest : All (λ (trip : Trip). Q trip.fid) parts.1 =
    timed_hold Q net version rows parts.1 parts.3 (All-tail (λ (r : TripRow). Q r.fid) row rows all) in
    All-same (λ (trip : Trip). Q trip.fid) trips (parts.0 ∷ parts.1) parts.4
    (All-cons (λ (trip : Trip). Q trip.fid) parts.0 parts.1 here rest)

-- what holds of the number of each row of the day's version holds of that of each trip of the day
-- The idea: a trip of the day is timed from a row of the network at one of the day's places, that row is of the day's version
-- (`placed`), and timing keeps its number (`timed_fid`). So no more has to be known of timing, and what is to be shown of a trip is
-- shown of rows.
day_hold : (Q : ℕ → Type 0) (net : Net) (facts : DayFacts) → IsDayOf net facts.kind facts →
    All (λ (row : TripRow). row.version ≡ facts.kind.version → Q row.fid) net.trips → All (λ (trip : Trip). Q trip.fid) facts.trips
day_hold Q net facts day all =
    let version : ℕ = facts.kind.version in
    let V : TripRow → Type 0 = λ row. row.version ≡ version in
    let H : TripRow → Type 0 = λ row. Q row.fid in
    timed_hold Q net version (rows_at net.trips facts.rows) facts.trips day.trips
    (rows_hold V H net.trips facts.rows all (placed version facts.kind.kind net.trips facts.rows day.rows))

-- no trip of a day has a greater number than its rows have
pub trip_fids : (net : Net) (facts : DayFacts) → All (λ (row : TripRow). row.fid ≤ 1000000000000000000) net.trips →
    IsDayOf net facts.kind facts → All (λ (trip : Trip). trip.fid ≤ 10 ^ 18) facts.trips
trip_fids net facts fids day =
    let few : (row : TripRow) → row.fid ≤ 1000000000000000000 → row.version ≡ facts.kind.version → row.fid ≤ 10 ^ 18 =
    λ row within is. within in
    day_hold (λ n. n ≤ 10 ^ 18) net facts day
    (All-weaker (λ (row : TripRow). row.fid ≤ 1000000000000000000) (λ (row : TripRow). row.version ≡ facts.kind.version → row.fid ≤ 10 ^ 18)
    few net.trips fids)

-- a table that is found among plain tables is plain
pub found_plain : (name : List ℕ) (tables : List Table) (table : Table) → find (has_name name) tables ≡ Some table →
    are_plain tables ≡ true → is_plain_table table ≡ true
found_plain name [] table found plain = absurd (cc)
found_plain name (first ∷ tables) table found plain =
    let parts = and_parts (is_plain_table first) (are_plain tables) plain in
    by (has_name name first) (λ later. found_plain name tables table later parts.1) parts.0 found
  where
    by : (b : Bool) → (find (has_name name) tables ≡ Some table → is_plain_table table ≡ true) → is_plain_table first ≡ true →
        (if b then Some first else find (has_name name) tables) ≡ Some table → is_plain_table table ≡ true
    by true later here e = let is : first ≡ table = cc in ap is_plain_table (sym is) ∙ here
    by false later here e = later e

each_faultless : (tables : List Table) (schemas : List Schema) → faults_of schemas tables ≡ [] →
    All (λ (s : Schema). table_faults s tables ≡ []) schemas
each_faultless tables [] none = All-nil (λ (s : Schema). table_faults s tables ≡ [])
each_faultless tables (s ∷ schemas) none =
    All-cons (λ (t : Schema). table_faults t tables ≡ []) s schemas (front_empty (table_faults s tables) (faults_of schemas tables) none)
    (each_faultless tables schemas (rest_empty (table_faults s tables) (faults_of schemas tables) none))

-- among plain tables without a fault the rows of REC_FRT have their versions and numbers
all_read : (tables : List Table) (table : Table) → are_plain tables ≡ true → faults_of (schemas_of needs.All) tables ≡ [] →
    table_of schema.trips tables ≡ Some table → All (IsRead table) table.rows
all_read tables table plain none found =
    let whole : is_plain_table table ≡ true = found_plain schema.trips.name tables table found plain in
    let columns = and_parts (are_plain_columns table.columns) (list_all (is_plain_row table.columns) table.rows)
    (and_parts (is_plain_name table.name) _ whole).1 in
    let trips : table_faults schema.trips tables ≡ [] = each_faultless tables (schemas_of needs.All) none 9 schema.trips (omega arith) in
    let inside : faults_in schema.trips (table_of schema.trips tables) ≡ [] =
    rest_empty _ (faults_in schema.trips (table_of schema.trips tables)) trips in
    let P : Option Table → Type 0 = λ t. faults_in schema.trips t ≡ [] in
    let of_table : missing_columns schema.trips table ++ row_faults schema.trips table [] 1 table.rows ≡ [] = subst P found inside in
    rows_read table (front_empty (missing_columns schema.trips table) _ of_table) [] 1 table.rows columns.1
    (rest_empty (missing_columns schema.trips table) _ of_table)

own_keys : (tables : List Table) (table : Table) → faults_of (schemas_of needs.All) tables ≡ [] →
    table_of schema.trips tables ≡ Some table →
    AllPairs (λ earlier later. same_cells later earlier ≡ false) (flat_map (λ row. own_key (key_of schema.trips table row)) table.rows)
own_keys tables table none found =
    let own : HasOwnKeys tables schema.trips = own_of (schemas_of needs.All) tables none 9 schema.trips (omega arith) in
    let P : Option Table → Type 0 = λ t. AllPairs (λ earlier later. same_cells later earlier ≡ false) (keys_in schema.trips t) in
    subst P found own

-- Among plain tables without a fault REC_FRT has exactly one row of the day's version for each trip of the day.
-- At least one: the row that a trip comes from is found by its own version and number (`one_at_least`, carried to trips by
-- `day_hold`). At most one: two rows would have one key, which is a fault of the tables (`at_most_one`). It is what `HasTripRows`
-- asks, so the copy of REC_FRT in a plan has a row for each trip and never a choice between two.
pub trip_rows_once : (tables : List Table) (facts : DayFacts) (table : Table) → IsTrue (are_plain tables) →
    first_fault (schemas_of needs.All) tables ≡ None → IsDayOf (net_of needs.All tables) facts.kind facts →
    table_of schema.trips tables ≡ Some table → All (λ (trip : Trip). HasOneRow table facts.kind.version trip.fid) facts.trips
trip_rows_once tables facts table plain none day found =
    let version : ℕ = facts.kind.version in
    let all : faults_of (schemas_of needs.All) tables ≡ [] = first_none (faults_of (schemas_of needs.All) tables) none in
    let read : All (IsRead table) table.rows = all_read tables table plain all found in
    let one : (fid : ℕ) → 1 ≤ length (filter (is_row_of table.columns version fid) table.rows) → HasOneRow table version fid =
    λ fid some. omega (arith, some, one_at_most table read version fid (own_keys tables table all found)) in
    let P : ℕ → ℕ → Type 0 = λ v fid. v ≡ version → 1 ≤ length (filter (is_row_of table.columns version fid) table.rows) in
    let Q : ℕ → ℕ → Type 0 = λ v fid. v ≡ version → HasOneRow table version fid in
    let typed_all : All (λ (row : TripRow). P row.version row.fid) (typed trip_row 0 (map (cells schema.trips table) table.rows)) =
    typed_trips P table 0 table.rows (one_at_least table read version) in
    let Of : Option Table → Type 0 = λ t. All (λ (row : TripRow). P row.version row.fid) (typed trip_row 0 (rows_in schema.trips t)) in
    let rows : All (λ (row : TripRow). P row.version row.fid) (net_of needs.All tables).trips = subst Of (sym found) typed_all in
    day_hold (λ fid. HasOneRow table version fid) (net_of needs.All tables) facts day
    (All-weaker (λ (row : TripRow). P row.version row.fid) (λ (row : TripRow). Q row.version row.fid) (λ row some is. one row.fid (some is))
    (net_of needs.All tables).trips rows)
