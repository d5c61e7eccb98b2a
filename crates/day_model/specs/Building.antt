-- Promise: the day of a network, or the first reason why there is none.
use Rattle.std.specs.Prelude.{◌≡◌, ℕ, ◌≤◌, nat_lt, List, [], ◌∷◌, length, Option, Some, None, Result, Ok, Err, slice_get, if◌then◌else◌}
use Rattle.plan_core.specs.Limits.{most_items}
use Rattle.vdv452_tables.specs.declared.net.Net.{Net}
use Rattle.vdv452_rows.specs.declared.rows.TripRow.{TripRow}
use Rattle.day_calendar.specs.declared.day.DayKind.{DayKind}
use Rattle.day_calendar.specs.DayTrips.{AreDayRows}
use Rattle.trip_times.specs.declared.trip.Trip.{Trip}
use Rattle.trip_times.specs.declared.trip.TripFault.{TripFault}
use Rattle.trip_times.specs.Timing.{timed}
use Rattle.deadheads.specs.DeadTimes.{AreDeadheads}
use Rattle.plan_params.specs.declared.fault.ParamFault.{ParamFault}
use Rattle.plan_params.specs.Faults.{first_fault}
use Rattle.plan_params.specs.Settings.{params_of}
use Rattle.day_model.specs.declared.fault.DayModelFault.{DayModelFault}
use Rattle.day_model.specs.declared.fault.DayModelFault.TheVariants as faults
use Rattle.day_model.specs.Facts.{DayFacts}

abbrev with_row : Option TripRow → List TripRow → List TripRow
with_row None rows = rows
with_row (Some row) rows = row ∷ rows

-- the rows that stand at these places, in the order of the places
abbrev pub rows_at : List TripRow → List ℕ → List TripRow
rows_at rows [] = []
rows_at rows (place ∷ places) = with_row (slice_get rows place) (rows_at rows places)

-- a trip, or its fault with its number
abbrev pub named : ℕ → Result Trip TripFault → Result Trip DayModelFault
named fid (Ok trip) = Ok trip
named fid (Err fault) = Err (faults.Trip fid fault)

-- a trip before others, or the fault of the first that has one
abbrev pub joined : Result Trip DayModelFault → Result (List Trip) DayModelFault → Result (List Trip) DayModelFault
joined (Err fault) others = Err fault
joined (Ok trip) (Err fault) = Err fault
joined (Ok trip) (Ok trips) = Ok (trip ∷ trips)

-- the trips of rows with their times, in the order of the rows, or the first fault
abbrev pub timed_rows : Net → ℕ → List TripRow → Result (List Trip) DayModelFault
timed_rows net version [] = Ok []
timed_rows net version (row ∷ rows) = joined (named row.fid (timed net version row)) (timed_rows net version rows)

abbrev pub timing_fault : Result (List Trip) DayModelFault → Option DayModelFault
timing_fault (Ok trips) = None
timing_fault (Err fault) = Some fault

abbrev pub settings_or : Option ParamFault → Option DayModelFault → Option DayModelFault
settings_or (Some fault) other = Some (faults.Params fault)
settings_or None other = other

-- The first reason why there is no day: it has too many trips; then the first fault of the settings; then that of the first trip, by
-- number, that has one.
abbrev pub day_fault : Net → DayKind → List ℕ → Option DayModelFault
day_fault net kind places =
    if nat_lt most_items (length places) then Some (faults.TooManyTrips (length places)) else
    settings_or (first_fault net kind.version) (timing_fault (timed_rows net kind.version (rows_at net.trips places)))

-- The day of a day type in a network: its trips by departure and number with their times, the settings, and the deadheads of the area and
-- group that the settings name.
pub record IsDayOf (net : Net) (kind : DayKind) (day : DayFacts) : Type 0 where
  pub kind_is : day.kind ≡ kind
  pub rows : AreDayRows net.trips kind.version kind.kind day.rows
  pub few : length day.rows ≤ most_items
  pub faultless : first_fault net kind.version ≡ None
  pub trips : timed_rows net kind.version (rows_at net.trips day.rows) ≡ Ok day.trips
  pub params : day.params ≡ params_of net
  pub deads : AreDeadheads net kind.version day.params.settings.area day.params.settings.group day.deads

-- a network has this first reason against a day of a day type
pub record HasDayFault (net : Net) (kind : DayKind) (fault : DayModelFault) : Type 0 where
  pub places : List ℕ
  pub rows : AreDayRows net.trips kind.version kind.kind places
  pub is : day_fault net kind places ≡ Some fault

-- why there is no day; running out of memory needs no cause
abbrev pub HasDayCause : Net → DayKind → DayModelFault → Type 0
HasDayCause net kind faults.Memory = Unit {0}
HasDayCause net kind (faults.TooManyTrips count) = HasDayFault net kind (faults.TooManyTrips count)
HasDayCause net kind (faults.Params fault) = HasDayFault net kind (faults.Params fault)
HasDayCause net kind (faults.Trip fid fault) = HasDayFault net kind (faults.Trip fid fault)

-- the settings have this first fault
abbrev pub IsSettingsFault : Net → ℕ → DayModelFault → Type 0
IsSettingsFault net version (faults.Params fault) = first_fault net version ≡ Some fault
IsSettingsFault net version faults.Memory = ⊥
IsSettingsFault net version (faults.TooManyTrips count) = ⊥
IsSettingsFault net version (faults.Trip fid fault) = ⊥
