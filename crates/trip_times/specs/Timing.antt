-- Promise: when a trip begins and ends.
use Rattle.std.specs.Prelude.{◌≡◌, ℕ, ◌+◌, ◌≤ℤ◌, pos, List, [], ◌∷◌, Option, Some, None, Result, Ok, Err, find, is_none, nat_le, sum_by, unwrap_or, if◌then◌else◌}
use Rattle.plan_core.specs.declared.types.Point.{Point}
use Rattle.vdv452_tables.specs.declared.net.Net.{Net}
use Rattle.vdv452_rows.specs.declared.rows.TripRow.{TripRow}
use Rattle.vdv452_tables.specs.LookUps.{area_on, course_on, group_dwell_on, links_from, run_time_on, trip_dwell_on}
use Rattle.trip_times.specs.declared.trip.Trip.{Trip}
use Rattle.trip_times.specs.declared.trip.TripFault.{TripFault}
use Rattle.trip_times.specs.declared.trip.TripFault.TheVariants.{NoRoute, ShortRoute, NoRunTime, PastEnd}
use Rattle.trip_times.specs.Courses.{before_last, last_from}

-- how long a trip stands at a point: by its own row, else by the row of its group, else not at all
abbrev pub dwell_at : Net → ℕ → TripRow → Point → ℕ
dwell_at net version row at = unwrap_or (trip_dwell_on net version row.fid at) (unwrap_or (group_dwell_on net version row.group at) 0)

-- how long a trip stands at points
abbrev pub dwell_seconds_of : Net → ℕ → TripRow → List Point → ℕ
dwell_seconds_of net version row points = sum_by (dwell_at net version row) points

-- the run time of a section in an area and a group of run times
abbrev pub run_time_of : Net → ℕ → ℕ → ℕ → Point × Point → Option ℕ
run_time_of net version area group link = run_time_on net version area group link.0 link.1

-- the first section without a run time
abbrev pub first_missing : (Point × Point → Option ℕ) → List (Point × Point) → Option (Point × Point)
first_missing time_of links = find (λ link. is_none (time_of link)) links

-- the run times of sections; one without a run time counts as 0
abbrev pub run_seconds_of : (Point × Point → Option ℕ) → List (Point × Point) → ℕ
run_seconds_of time_of links = sum_by (λ link. unwrap_or (time_of link) 0) links

-- a trip from point to point that takes a number of seconds
abbrev pub trip_over : TripRow → Point → Point → ℕ → Trip
trip_over row from to seconds = record {
  fid = row.fid;
  line = row.line;
  from = from;
  begin = record { 0 = pos row.start };
  to = to;
  end = record { 0 = pos (row.start + seconds) };
}

-- a trip ends within two days
abbrev pub ended : TripRow → Point → Point → ℕ → Result Trip TripFault
ended row from to seconds = if nat_le (row.start + seconds) 172800 then Ok (trip_over row from to seconds) else Err PastEnd

-- by the first section without a run time, then by the end
abbrev pub timed_if : TripRow → Option (Point × Point) → Point → Point → ℕ → Result Trip TripFault
timed_if row (Some link) from to seconds = Err (NoRunTime link.0 link.1)
timed_if row None from to seconds = ended row from to seconds

-- by the stop sequence: the trip takes the run times of its sections, and stands at the points between the first and the last
abbrev pub timed_on : (Point × Point → Option ℕ) → (Point → ℕ) → TripRow → List Point → Result Trip TripFault
timed_on time_of dwell_of row [] = Err ShortRoute
timed_on time_of dwell_of row (first ∷ []) = Err ShortRoute
timed_on time_of dwell_of row (first ∷ (next ∷ course)) =
    timed_if row (first_missing time_of (links_from first (next ∷ course))) first (last_from next course)
    (run_seconds_of time_of (links_from first (next ∷ course)) + sum_by dwell_of (before_last next course))

-- by the area of the line's variant
abbrev pub timed_in : Net → ℕ → TripRow → Option ℕ → Result Trip TripFault
timed_in net version row None = Err NoRoute
timed_in net version row (Some area) =
    timed_on (run_time_of net version area row.group) (dwell_at net version row) row (course_on net version row.line row.variant)

-- the trip of a row, or the first cause why it has no times
abbrev pub timed : Net → ℕ → TripRow → Result Trip TripFault
timed net version row = timed_in net version row (area_on net version row.line row.variant)

-- the trip is that of the row, begins not before midnight and ends not before it begins, within two days
pub record IsTripOf (row : TripRow) (trip : Trip) : Type 0 where
  pub fid_is : trip.fid ≡ row.fid
  pub line_is : trip.line ≡ row.line
  pub begin_is : trip.begin.0 ≡ pos row.start
  pub not_negative : pos 0 ≤ℤ trip.begin.0
  pub in_order : trip.begin.0 ≤ℤ trip.end.0
  pub within : trip.end.0 ≤ℤ pos 172800
