-- The trips of a day have the numbers of their rows, and a day's tables are plain.
use Rattle.std.proofs.Common.{◌≡◌, ℕ, suc, ◌≤◌, ◌<◌, ◌^◌, ◌⊎◌, inl, inr, ◌&&◌, map, codes, get_or, Bool, true, false, if◌then◌else◌, ◌+◌, nat_le, List, [], ◌∷◌, length, Option, Some, None, Result, Ok, Err, OnOk, All, IsTrue, slice_get, sum_by, refl, ◌∙◌, ap, subst, arith}
use Rattle.std.proofs.lemmas.List.Elements.{All-nil, All-cons, All-get_or, All-head, All-tail}
use Rattle.std.proofs.lemmas.Option.{slice_get_cases}
use Rattle.std.proofs.lemmas.List.{length-map}
use Rattle.std.specs.List.{zip}
use Rattle.std.proofs.lemmas.Bool.{and_from}
use Rattle.plan_core.specs.declared.types.Point.{Point}
use Rattle.vdv451_text.specs.Plain.{are_plain, is_plain_table}
use Rattle.vdv452_tables.specs.declared.net.Net.{Net}
use Rattle.vdv452_rows.specs.declared.rows.TripRow.{TripRow}
use Rattle.vdv452_tables.specs.LookUps.{area_on, course_on, links_from}
use Rattle.trip_times.specs.declared.trip.Trip.{Trip}
use Rattle.trip_times.specs.declared.trip.TripFault.{TripFault}
use Rattle.trip_times.specs.declared.trip.TripFault.TheVariants.{PastEnd}
use Rattle.trip_times.specs.Courses.{before_last, last_from}
use Rattle.trip_times.specs.Timing.{dwell_at, run_time_of, first_missing, run_seconds_of, ended, timed, timed_if, timed_in, timed_on, trip_over}
use Rattle.day_calendar.specs.declared.day.DayKind.{DayKind}
use Rattle.day_model.specs.declared.fault.DayModelFault.{DayModelFault}
use Rattle.day_model.specs.Building.{IsDayOf, joined, named, rows_at, timed_rows}
use Rattle.day_model.specs.Facts.{DayFacts}
use Rattle.number_tables.specs.Numbers.{number_row}
use Rattle.number_tables.proofs.PlainLemmas.{full_rows, plain_table}
use Rattle.day_tables.specs.DayTables.{day_tables_of, placed_numbers, tag_columns, tag_numbers, tag_table, trip_columns, trip_table}

-- a trip that has times has the number of its row
ended_fid : (row : TripRow) (from to : Point) (seconds : ℕ) (trip : Trip) → ended row from to seconds ≡ Ok trip → trip.fid ≡ row.fid
ended_fid row from to seconds trip is =
    let Goal : Bool → Type 0 = λ b. (if b then Ok (trip_over row from to seconds) else Err PastEnd) ≡ Ok trip → trip.fid ≡ row.fid in
    let split : (b : Bool) → Goal b = λ b. elim b as Goal [ true ↦ λ e. cc | false ↦ λ e. cc ] in
    split (nat_le (row.start + seconds) 172800) is

if_fid : (row : TripRow) (missing : Option (Point × Point)) (from to : Point) (seconds : ℕ) (trip : Trip) →
    timed_if row missing from to seconds ≡ Ok trip → trip.fid ≡ row.fid
if_fid row (Some link) from to seconds trip is = cc
if_fid row None from to seconds trip is = ended_fid row from to seconds trip is

on_fid : (time_of : Point × Point → Option ℕ) (dwell_of : Point → ℕ) (row : TripRow) (course : List Point) (trip : Trip) →
    timed_on time_of dwell_of row course ≡ Ok trip → trip.fid ≡ row.fid
on_fid time_of dwell_of row [] trip is = cc
on_fid time_of dwell_of row (first ∷ []) trip is = cc
on_fid time_of dwell_of row (first ∷ (next ∷ course)) trip is =
    if_fid row (first_missing time_of (links_from first (next ∷ course))) first (last_from next course)
    (run_seconds_of time_of (links_from first (next ∷ course)) + sum_by dwell_of (before_last next course)) trip is

in_fid : (net : Net) (version : ℕ) (row : TripRow) (area : Option ℕ) (trip : Trip) →
    timed_in net version row area ≡ Ok trip → trip.fid ≡ row.fid
in_fid net version row None trip is = cc
in_fid net version row (Some area) trip is =
    on_fid (run_time_of net version area row.group) (dwell_at net version row) row (course_on net version row.line row.variant) trip is

-- trips that were timed have numbers in range
abbrev AreTrips : List Trip → Type 0
AreTrips trips = All (λ trip. trip.fid ≤ 10 ^ 18) trips

named_fid : (row : TripRow) (one : Result Trip TripFault) (trip : Trip) → ((trip : Trip) → one ≡ Ok trip → trip.fid ≡ row.fid) →
    named row.fid one ≡ Ok trip → trip.fid ≡ row.fid
named_fid row (Ok found) trip h is = h trip (cc)
named_fid row (Err fault) trip h is = cc

joined_fids : (row : TripRow) (one : Result Trip DayModelFault) (others : Result (List Trip) DayModelFault) (trips : List Trip) →
    row.fid ≤ 10 ^ 18
    → ((trip : Trip) → one ≡ Ok trip → trip.fid ≡ row.fid) → ((more : List Trip) → others ≡ Ok more → AreTrips more) →
    joined one others ≡ Ok trips → AreTrips trips
joined_fids row (Err fault) others trips small first rest is = cc
joined_fids row (Ok trip) (Err fault) trips small first rest is = cc
joined_fids row (Ok trip) (Ok more) trips small first rest is =
    let e : trip ∷ more ≡ trips = cc in
    subst AreTrips e (All-cons (λ trip. trip.fid ≤ 10 ^ 18) trip more (omega (arith, small, first trip refl)) (rest more refl))

-- Trips that were timed have the numbers of their rows: each trip is made with its row's number, whatever its stop sequence and times
-- (`in_fid`), and a fault gives no trips. So the bound on FRT_FID that was read carries over from rows to trips, which the numbers
-- of X_FAHRT need.
timed_fids : (net : Net) (version : ℕ) (rows : List TripRow) (trips : List Trip) → All (λ row. row.fid ≤ 10 ^ 18) rows →
    timed_rows net version rows ≡ Ok trips → AreTrips trips
timed_fids net version [] trips small is =
    let e : [] ≡ trips = cc in
    subst AreTrips e (All-nil (λ (trip : Trip). trip.fid ≤ 10 ^ 18))
timed_fids net version (row ∷ rows) trips small is =
    joined_fids row (named row.fid (timed net version row)) (timed_rows net version rows) trips
    (All-head (λ row. row.fid ≤ 10 ^ 18) row rows small)
    (λ trip e. named_fid row (timed net version row) trip
    (λ trip e. in_fid net version row (area_on net version row.line row.variant) trip e) e)
    (λ more e. timed_fids net version rows more (All-tail (λ row. row.fid ≤ 10 ^ 18) row rows small) e) is

-- what holds of all rows holds of those at places
rows_at_more : (P : TripRow → Type 0) (rows : List TripRow) (place : ℕ) (places : List ℕ) → All P rows → All P (rows_at rows places)
    → ((x : TripRow) × (place < length rows) × (slice_get rows place ≡ Some x) × (get_or rows place x ≡ x)) ⊎
    ((length rows ≤ place) × (slice_get rows place ≡ None)) → All P (rows_at rows (place ∷ places))
rows_at_more P rows place places all rest (inl found) =
    rw found.2 (All-cons P found.0 (rows_at rows places) (subst P found.3 (All-get_or P rows place found.0 found.1 all)) rest)
rows_at_more P rows place places all rest (inr past) = rw past.1 rest

rows_at_all : (P : TripRow → Type 0) (rows : List TripRow) (places : List ℕ) → All P rows → All P (rows_at rows places)
rows_at_all P rows [] all = All-nil P
rows_at_all P rows (place ∷ places) all =
    rows_at_more P rows place places all (rows_at_all P rows places all) (slice_get_cases rows place).1

-- the numbers of a day's trips are in range
pub day_fids : (net : Net) (kind : DayKind) (day : DayFacts) → IsDayOf net kind day → All (λ row. row.fid ≤ 10 ^ 18) net.trips →
    All (λ trip. trip.fid ≤ 10 ^ 18) day.trips
day_fids net kind day is small =
    timed_fids net kind.version (rows_at net.trips day.rows) day.trips
    (rows_at_all (λ row. row.fid ≤ 10 ^ 18) net.trips day.rows small) is.trips

plain_tag : (day : DayFacts) → is_plain_table (tag_table day) ≡ true
plain_tag day = plain_table (codes "X_TAG") tag_columns (tag_numbers day ∷ []) refl
    (full_rows tag_columns tag_numbers (λ d. refl) (day ∷ []))

plain_trips : (net : Net) (day : DayFacts) → is_plain_table (trip_table net day) ≡ true
plain_trips net day =
    plain_table (codes "X_FAHRT") trip_columns (map (placed_numbers net day.kind.version) (zip day.rows day.trips)) refl
    (full_rows trip_columns (placed_numbers net day.kind.version) (λ placed. refl) (zip day.rows day.trips))

-- The tables of a day are plain: their names and columns are constants that pass the tests, and each row is made with as many
-- numbers as there are columns. A number is plain in every column of numbers, whatever the day, so nothing is asked of the day
-- itself. So the tables may be written, and are read back as they are.
pub plain_day : (net : Net) (day : DayFacts) → IsTrue (are_plain (day_tables_of net day))
plain_day net day =
    and_from (is_plain_table (tag_table day)) (is_plain_table (trip_table net day) && true) (plain_tag day)
    (and_from (is_plain_table (trip_table net day)) true (plain_trips net day) refl)

zip_all : {A B : Type 0} (xs : List A) (ys : List B) → length xs ≡ length ys → length (zip xs ys) ≡ length ys
zip_all [] [] same = refl
zip_all [] (y ∷ ys) same = absurd (omega (arith, same))
zip_all (x ∷ xs) [] same = absurd (omega (arith, same))
zip_all (x ∷ xs) (y ∷ ys) same = ap suc (zip_all xs ys (omega (arith, same)))

-- there is a row for each trip
row_for_each : (net : Net) (day : DayFacts) → length day.rows ≡ length day.trips → length (trip_table net day).rows ≡ length day.trips
row_for_each net day same =
    let pairs = zip day.rows day.trips in
    length-map (map (placed_numbers net day.kind.version) pairs) number_row ∙ length-map pairs (placed_numbers net day.kind.version)
    ∙ zip_all day.rows day.trips same

pub each_row : {T E : Type 0} (result : Result T E) (net : Net) (day : DayFacts) → length day.rows ≡ length day.trips →
    OnOk result (length (trip_table net day).rows ≡ length day.trips)
each_row (Ok table) net day same = row_for_each net day same
each_row (Err e) net day same = tt
