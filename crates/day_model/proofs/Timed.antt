-- Rows that are timed one after another.
use Rattle.std.proofs.Common.{◌≡◌, ℕ, ◌+◌, ◌<◌, List, [], ◌∷◌, ◌++◌, length, drop, Some, Result, Ok, Err, refl, sym, ◌∙◌, ap, append_assoc, slice_get, get_or, slice_index, add-one, drop-cons}
use Rattle.std.proofs.lemmas.Option.{slice_get_read}
use Rattle.trip_times.specs.declared.trip.Trip.{Trip}
use Rattle.trip_times.specs.Timing.{timed}
use Rattle.vdv452_tables.specs.declared.net.Net.{Net}
use Rattle.vdv452_rows.specs.declared.rows.TripRow.{TripRow}
use Rattle.day_model.specs.declared.fault.DayModelFault.{DayModelFault}
use Rattle.day_model.specs.Building.{joined, named, rows_at, timed_rows}

-- trips before what others give
abbrev pub before : List Trip → Result (List Trip) DayModelFault → Result (List Trip) DayModelFault
before trips (Err fault) = Err fault
before trips (Ok more) = Ok (trips ++ more)

-- no trip before them
pub before_none : (others : Result (List Trip) DayModelFault) → others ≡ before [] others
before_none (Err fault) = refl
before_none (Ok more) = refl

-- one trip more before them
before_more : (trips : List Trip) (trip : Trip) (others : Result (List Trip) DayModelFault) →
    before trips (joined (Ok trip) others) ≡ before (trips ++ trip ∷ []) others
before_more trips trip (Err fault) = refl
before_more trips trip (Ok more) = ap (λ (ts : List Trip). Ok ts) (sym (append_assoc trips (trip ∷ []) more))

-- the trips from a place on, whose row is there
abbrev pub rest_of : Net → ℕ → List TripRow → List ℕ → Result (List Trip) DayModelFault
rest_of net version rows places = timed_rows net version (rows_at rows places)

rest_first : (net : Net) (version : ℕ) (rows : List TripRow) (places : List ℕ) (place : ℕ) (others : List ℕ) (row : TripRow) →
    places ≡ place ∷ others → slice_get rows place ≡ Some row →
    rest_of net version rows places ≡ joined (named row.fid (timed net version row)) (rest_of net version rows others)
rest_first net version rows places place others row at there = rw (at, there) refl

-- a row is timed
pub timed_more : (net : Net) (version : ℕ) (rows : List TripRow) (places : List ℕ) (place : ℕ) (others : List ℕ) (row : TripRow)
    (trips : List Trip) (trip : Trip) →
    places ≡ place ∷ others → slice_get rows place ≡ Some row → Ok trip ≡ named row.fid (timed net version row) →
    before trips (rest_of net version rows places) ≡ before (trips ++ trip ∷ []) (rest_of net version rows others)
timed_more net version rows places place others row trips trip at there is =
    ap (before trips) (rest_first net version rows places place others row at there)
    ∙ ap (λ one. before trips (joined one (rest_of net version rows others))) (sym is)
    ∙ before_more trips trip (rest_of net version rows others)

-- a row has a fault
pub timed_wrong : (net : Net) (version : ℕ) (rows : List TripRow) (places : List ℕ) (place : ℕ) (others : List ℕ) (row : TripRow)
    (trips : List Trip) (fault : DayModelFault) →
    places ≡ place ∷ others → slice_get rows place ≡ Some row → Err fault ≡ named row.fid (timed net version row) →
    before trips (rest_of net version rows places) ≡ Err fault
timed_wrong net version rows places place others row trips fault at there is =
    ap (before trips) (rest_first net version rows places place others row at there)
    ∙ ap (λ one. before trips (joined one (rest_of net version rows others))) (sym is)

-- none is left
pub timed_all : (net : Net) (version : ℕ) (rows : List TripRow) (places : List ℕ) (trips : List Trip) → places ≡ [] →
    before trips (rest_of net version rows places) ≡ Ok trips
timed_all net version rows places trips e = rw e (ap (λ (ts : List Trip). Ok ts) (nil_after trips))
  where
    nil_after : (xs : List Trip) → xs ++ [] ≡ xs
    nil_after [] = refl
    nil_after (x ∷ xs) = ap (λ ys. x ∷ ys) (nil_after xs)

-- the places from one on
place_first : (places : List ℕ) (i : ℕ) → i < length places → drop i places ≡ slice_index places i ∷ drop (i + 1) places
place_first places i within = rw add-one (drop-cons places i 0 within)

row_there : (rows : List TripRow) (place : ℕ) (row : TripRow) → place < length rows → row ≡ get_or rows place row →
    slice_get rows place ≡ Some row
row_there rows place row within is = slice_get_read rows (length rows) place row refl within is

-- The same at the place of a loop, whose invariant it keeps: the trips so far, before what the rows left give, are what all rows
-- give. A row that is timed moves its trip to the trips so far; one that has no times ends all with its fault (`wrong_at`). So the
-- answer is the list of all trips, or the fault of the first trip, in their order, that has one.
pub more_at : (net : Net) (version : ℕ) (rows : List TripRow) (places : List ℕ) (i : ℕ) (row : TripRow)
    (trips now : List Trip) (trip : Trip) →
    i < length places → slice_index places i < length rows → row ≡ get_or rows (slice_index places i) row →
    Ok trip ≡ named row.fid (timed net version row) → now ≡ trips ++ trip ∷ [] →
    rest_of net version rows places ≡ before trips (rest_of net version rows (drop i places)) →
    rest_of net version rows places ≡ before now (rest_of net version rows (drop (i + 1) places))
more_at net version rows places i row trips now trip within there is timed_so pushed so_far =
    so_far
    ∙ timed_more net version rows (drop i places) (slice_index places i) (drop (i + 1) places) row trips trip (place_first places i within)
    (row_there rows (slice_index places i) row there is) timed_so
    ∙ ap (λ (ts : List Trip). before ts (rest_of net version rows (drop (i + 1) places))) (sym pushed)

pub wrong_at : (net : Net) (version : ℕ) (rows : List TripRow) (places : List ℕ) (i : ℕ) (row : TripRow)
    (trips : List Trip) (fault : DayModelFault) →
    i < length places → slice_index places i < length rows → row ≡ get_or rows (slice_index places i) row →
    Err fault ≡ named row.fid (timed net version row) →
    rest_of net version rows places ≡ before trips (rest_of net version rows (drop i places)) →
    rest_of net version rows places ≡ Err fault
wrong_at net version rows places i row trips fault within there is timed_so so_far =
    so_far ∙ timed_wrong net version rows (drop i places) (slice_index places i) (drop (i + 1) places) row trips fault
    (place_first places i within) (row_there rows (slice_index places i) row there is) timed_so
