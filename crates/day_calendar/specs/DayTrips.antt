-- Promise: the trips of a day: those of its version and day type that carry passengers, by start and number.
use Rattle.std.specs.Prelude.{◌≡◌, ℕ, ◌+◌, Bool, ◌==◌, ◌&&◌, List, [], ◌∷◌, map, if◌then◌else◌, IsPermutation, IsSorted}
use Rattle.std.specs.Ordering.{nat_cmp, ordering_then}
use Rattle.std.specs.declared.cmp.Ordering.{Ordering}
use Rattle.vdv452_rows.specs.declared.rows.TripRow.{TripRow}
use Rattle.day_calendar.specs.declared.trips.DayTrip.{DayTrip}

abbrev pub is_of_day : ℕ → ℕ → TripRow → Bool
is_of_day version kind trip = (trip.version == version) && ((trip.kind == kind) && (trip.mode == 1))

abbrev day_trip : ℕ → TripRow → DayTrip
day_trip place trip = record { start = trip.start; fid = trip.fid; place = place }

-- as the rows stand
abbrev pub trips_from : ℕ → ℕ → ℕ → List TripRow → List DayTrip
trips_from version kind place [] = []
trips_from version kind place (trip ∷ trips) =
    if is_of_day version kind trip then day_trip place trip ∷ trips_from version kind (place + 1) trips else trips_from
    version kind (place + 1) trips

abbrev pub day_trips : List TripRow → ℕ → ℕ → List DayTrip
day_trips trips version kind = trips_from version kind 0 trips

-- by start, then by number; a number stands once, so the place never decides
abbrev pub trip_order : DayTrip → DayTrip → Ordering
trip_order a b = ordering_then (nat_cmp a.start b.start) (ordering_then (nat_cmp a.fid b.fid) (nat_cmp a.place b.place))

-- the places of the day's trips, in order
pub record AreDayRows (trips : List TripRow) (version kind : ℕ) (places : List ℕ) : Type 0 where
  pub ordered : List DayTrip
  pub same : IsPermutation (day_trips trips version kind) ordered
  pub rising : IsSorted trip_order ordered
  pub are : places ≡ map (λ (trip : DayTrip). trip.place) ordered
