-- The places of a day's trips stand among all trips.
use Rattle.std.proofs.Common.{◌≡◌, ℕ, zero, suc, ◌+◌, ◌<◌, ◌≤◌, Bool, true, false, cond, List, [], ◌∷◌, length, map, All, Result, Ok, Err, arith, slice_index_or, ap, subst, sym}
use Rattle.std.specs.Prelude.{IfOk}
use Rattle.std.proofs.lemmas.List.{length-map}
use Rattle.std.proofs.lemmas.List.Elements.{All-map}
use Rattle.std.proofs.lemmas.List.Sorted.{All-permutation, length_permutation}
use Rattle.vdv452_rows.specs.declared.rows.TripRow.{TripRow}
use Rattle.day_calendar.specs.declared.trips.DayTrip.{DayTrip}
use Rattle.day_calendar.specs.DayTrips.{AreDayRows, day_trips, is_of_day, trips_from}

first_within : (n : ℕ) (trip : DayTrip) (trips : List DayTrip) → trip.place < n → All (λ (t : DayTrip). t.place < n) trips →
    All (λ (t : DayTrip). t.place < n) (trip ∷ trips)
first_within n trip trips here rest =
    λ k. elim k as (λ k. (d : DayTrip) → k < length (trip ∷ trips) → (slice_index_or (trip ∷ trips) k d).place < n) [
      | zero ↦ λ d within. here
      | suc j ↦ λ d within. rest j d (omega (arith, within))
    ]

from_within : (version kind place n : ℕ) (trips : List TripRow) → place + length trips ≤ n →
    All (λ (t : DayTrip). t.place < n) (trips_from version kind place trips)
from_within version kind place n [] few = λ k d within. absurd (omega (arith, within))
from_within version kind place n (trip ∷ trips) few =
    let rest = from_within version kind (place + 1) n trips (omega (arith, few)) in
    let Goal : Bool → Type 0 =
    λ b. All (λ (t : DayTrip). t.place < n)
    (cond b (record { start = trip.start; fid = trip.fid; place = place } ∷ trips_from version kind (place + 1) trips)
    (trips_from version kind (place + 1) trips)) in
    let split : (b : Bool) → Goal b = λ b. elim b as Goal [
      | true ↦ first_within n (record { start = trip.start; fid = trip.fid; place = place }) _ (omega (arith, few)) rest
      | false ↦ rest
    ] in split (is_of_day version kind trip)

-- The places of a day's trips stand among all trips, so that code may take the row at each of them without a test. The trips are
-- gathered with their places as they stand, each below the count (`from_within`), and putting them in order keeps what holds of
-- each.
pub places_within : (trips : List TripRow) (version kind : ℕ) (places : List ℕ) → AreDayRows trips version kind places →
    All (λ place. place < length trips) places
places_within trips version kind places rows =
    let found = from_within version kind 0 (length trips) trips (omega arith) in
    let ordered = All-permutation (λ (t : DayTrip). t.place < length trips) (day_trips trips version kind) rows.ordered rows.same found in
    let P : List ℕ → Type 0 = λ ps. All (λ place. place < length trips) ps in
    subst P (sym rows.are) (All-map (λ place. place < length trips) (λ (t : DayTrip). t.place) rows.ordered ordered)

-- the same of an answer
pub answer_within : {E : Type 0} (trips : List TripRow) (version kind : ℕ) (answer : Result (List ℕ) E) →
    IfOk answer (AreDayRows trips version kind) → IfOk answer (λ places. All (λ place. place < length trips) places)
answer_within trips version kind (Ok places) rows = places_within trips version kind places rows
answer_within trips version kind (Err e) rows = tt

-- a day has no more trips than there are
from_few : (version kind place : ℕ) (trips : List TripRow) → length (trips_from version kind place trips) ≤ length trips
from_few version kind place [] = omega arith
from_few version kind place (trip ∷ trips) =
    let rest = from_few version kind (place + 1) trips in
    let Goal : Bool → Type 0 =
    λ b. length (cond b (record { start = trip.start; fid = trip.fid; place = place } ∷ trips_from version kind (place + 1) trips)
    (trips_from version kind (place + 1) trips)) ≤ length (trip ∷ trips) in
    let split : (b : Bool) → Goal b = λ b. elim b as Goal [ true ↦ omega (arith, rest) | false ↦ omega (arith, rest) ] in
    split (is_of_day version kind trip)

pub places_few : (trips : List TripRow) (version kind : ℕ) (places : List ℕ) → AreDayRows trips version kind places →
    length places ≤ length trips
places_few trips version kind places rows =
    let all : length places ≡ length (map (λ (t : DayTrip). t.place) rows.ordered) = ap (λ (ps : List ℕ). length ps) rows.are in
    omega (
      arith,
      all,
      length-map rows.ordered (λ (t : DayTrip). t.place),
      length_permutation (day_trips trips version kind) rows.ordered
          rows.same,
      from_few version kind 0 trips,
    )

pub answer_few : {E : Type 0} (trips : List TripRow) (version kind : ℕ) (answer : Result (List ℕ) E) →
    IfOk answer (AreDayRows trips version kind) → IfOk answer (λ places. length places ≤ length trips)
answer_few trips version kind (Ok places) rows = places_few trips version kind places rows
answer_few trips version kind (Err e) rows = tt

-- fewer than so many where so few rows are there
pub answer_below : {E : Type 0} (trips : List TripRow) (version kind n : ℕ) (answer : Result (List ℕ) E) → length trips < n →
    IfOk answer (AreDayRows trips version kind) → IfOk answer (λ places. length places < n)
answer_below trips version kind n (Ok places) few rows = omega (arith, few, places_few trips version kind places rows)
answer_below trips version kind n (Err e) few rows = tt
