-- Promise: trips by the points at which they begin and end, and by the time.
use Rattle.std.specs.Prelude.{◌≡◌, ◌<◌, ◌≤◌, ◌*◌, ◌≤ℤ◌, ℕ, ℤ, pos, List, Some, length, slice_get, slice_index}
use Rattle.trip_times.specs.declared.trip.Trip.{Trip}

-- for each trip a number: trips with one number begin at one point
pub record AreBeginNumbers (trips : List Trip) (numbers : List ℕ) : Type 0 where
  pub count : length numbers ≡ length trips
  pub same : (t u : ℕ) (trip next : Trip) → slice_get trips t ≡ Some trip → slice_get trips u ≡ Some next →
      slice_index numbers t ≡ slice_index numbers u → trip.from ≡ next.from

-- for each trip a number: trips with one number end at one point
pub record AreEndNumbers (trips : List Trip) (numbers : List ℕ) : Type 0 where
  pub count : length numbers ≡ length trips
  pub same : (t u : ℕ) (trip next : Trip) → slice_get trips t ≡ Some trip → slice_get trips u ≡ Some next →
      slice_index numbers t ≡ slice_index numbers u → trip.to ≡ next.to

-- for each place from one on the next one with its number, and the number of places where there is none
pub record AreNexts (numbers nexts : List ℕ) (from : ℕ) : Type 0 where
  pub count : length nexts ≡ length numbers
  pub within : (t : ℕ) → from ≤ t → t < length numbers → slice_index nexts t ≤ length numbers
  pub later : (t : ℕ) → from ≤ t → t < length numbers → t < slice_index nexts t
  pub same : (t : ℕ) → from ≤ t → t < length numbers → slice_index nexts t < length numbers →
      slice_index numbers (slice_index nexts t) ≡ slice_index numbers t
  pub first : (t u : ℕ) → from ≤ t → t < u → u < length numbers → slice_index numbers u ≡ slice_index numbers t → slice_index nexts t ≤ u

-- for each number the first place from one on that has it, and the number of places where there is none
pub record AreHeads (numbers heads : List ℕ) (from : ℕ) : Type 0 where
  pub within : (n : ℕ) → n < length heads → slice_index heads n ≤ length numbers
  pub own : (n : ℕ) → n < length heads → slice_index heads n < length numbers →
      (from ≤ slice_index heads n) × (slice_index numbers (slice_index heads n) ≡ n)
  pub first : (u : ℕ) → from ≤ u → u < length numbers → slice_index heads (slice_index numbers u) ≤ u

-- The trips by the points at which they begin: numbers of the points, for each of them its first trip, and for each trip the next one that
-- begins there.
pub record AreDepartures (trips : List Trip) (numbers firsts nexts : List ℕ) : Type 0 where
  pub points : AreBeginNumbers trips numbers
  pub below : (t : ℕ) → t < length numbers → slice_index numbers t < length firsts
  pub heads : AreHeads numbers firsts 0
  pub chains : AreNexts numbers nexts 0

-- no trip before a place begins at a time or later
abbrev pub IsFirstFrom : List Trip → ℤ → ℕ → Type 0
IsFirstFrom trips time first = (u : ℕ) (trip : Trip) → slice_get trips u ≡ Some trip → time ≤ℤ trip.begin.0 → first ≤ u

-- for each of the first minutes such a place
pub record AreMinutes (trips : List Trip) (end : ℕ) (minutes : List ℕ) : Type 0 where
  pub count : length minutes ≡ 2881
  pub within : (minute : ℕ) → minute < end → slice_index minutes minute ≤ length trips
  pub first : (minute : ℕ) → minute < end → IsFirstFrom trips (pos (60 * minute)) (slice_index minutes minute)
