-- The numbers of a day that is read are in their ranges.
use Rattle.std.proofs.Common.{◌≡◌, ℕ, ◌+◌, ◌≤◌, Bool, true, false, if◌then◌else◌, nat_le, All, List, [], ◌∷◌, length, map, Option, Some, None, Ok, Err, sum_by, refl, sym, ap, ◌∙◌, subst, arith}
use Rattle.std.proofs.lemmas.Bool.Decides.{nat_tests}
use Rattle.std.proofs.lemmas.Int.{ints}
use Rattle.std.proofs.lemmas.List.{length-map}
use Rattle.std.proofs.lemmas.List.Elements.{All-from_recursion, All-head}
use Rattle.std.specs.List.{AllByRecursion}
use Rattle.plan_core.specs.declared.types.Point.{Point}
use Rattle.vdv452_tables.specs.declared.net.Net.{Net}
use Rattle.vdv452_rows.specs.declared.rows.TripRow.{TripRow}
use Rattle.vdv452_rows.specs.Schema as schema
use Rattle.vdv452_tables.specs.LookUps.{area_on, course_on, links_from}
use Rattle.vdv452_tables.specs.Ranges.{Fits, HasRanges}
use Rattle.day_calendar.specs.declared.trips.DayTrip.{DayTrip}
use Rattle.trip_times.specs.declared.trip.Trip.{Trip}
use Rattle.trip_times.specs.declared.trip.TripFault.TheVariants.{PastEnd}
use Rattle.trip_times.specs.Courses.{before_last, last_from}
use Rattle.trip_times.specs.Timing.{dwell_at, first_missing, run_seconds_of, run_time_of, timed, timed_if, timed_in, timed_on, trip_over}
use Rattle.plan_params.specs.Faults.{first_fault}
use Rattle.plan_params.specs.Limits.{AreSettings, HaveRanges}
use Rattle.plan_params.specs.Settings.{groups_of, params_of, pools_of, settings_in, settings_of, way_of}
use Rattle.plan_params.proofs.FaultLemmas.{few_groups, few_pools}
use Rattle.plan_params.proofs.RangeLemmas.{groups_all, groups_few, groups_rise, pools_all, pools_few, pools_rise, ways_all}
use Rattle.day_model.specs.Building.{IsDayOf, rows_at, timed_rows}
use Rattle.day_model.specs.Facts.{DayFacts}
use Rattle.day_model.specs.Ranges.{AreInRange, IsDaily}
use Rattle.check_answers.proofs.OwnNumbers.{day-fids, joins}

-- The settings.
settings-fit : (row : List ℕ) → Fits schema.plan.columns row → AreSettings (settings_of row)
settings-fit row fits =
    let width = fits.width in
    record {
      turn = fits.within 2 (omega (arith, width));
      max_wait = fits.within 3 (omega (arith, width));
      handover = fits.within 4 (omega (arith, width));
    }

settings-first : (rows : List (List ℕ)) → All (Fits schema.plan.columns) rows → AreSettings (settings_in rows)
settings-first [] fits = record { turn = omega arith; max_wait = omega arith; handover = omega arith }
settings-first (row ∷ rows) fits = settings-fit row (All-head (Fits schema.plan.columns) row rows fits)

params-in-range : (net : Net) (version : ℕ) → HasRanges net → first_fault net version ≡ None → HaveRanges (params_of net)
params-in-range net version ranges none = record {
  settings = settings-first net.plan ranges.plan;
  few_pools = pools_few net (pools_of net) refl (few_pools net version none);
  few_groups = groups_few net (groups_of net) refl (few_groups net version none);
  pools = pools_all net net.depots (pools_of net) refl ranges.depots refl;
  groups = groups_all net net.drivers (groups_of net) refl ranges.drivers refl;
  ways = ways_all net net.ways (map way_of net.ways) ranges.ways refl;
  pools_rise = pools_rise net (pools_of net) refl;
  groups_rise = groups_rise net (groups_of net) refl;
}

-- A trip begins not before midnight and ends not before it begins, within two days.
module _ (row : TripRow) (trip : Trip) where
  -- A trip exists only where the test of its end passed: start and run time with dwell are at most two days. So its range needs
  -- nothing of the sections it runs over, and all lemmas down to `timed-daily` only lead from a row to this test.
  over-daily : (from to : Point) (seconds : ℕ) (b : Bool) → nat_le (row.start + seconds) 172800 ≡ b →
      (if b then Ok (trip_over row from to seconds) else Err PastEnd) ≡ Ok trip → IsDaily trip
  over-daily from to seconds true test e =
      let is : trip_over row from to seconds ≡ trip = cc in
      let few : row.start + seconds ≤ 172800 = grind (arith, nat_tests) in
      let daily : IsDaily (trip_over row from to seconds) =
      record { begins = omega (arith, ints); order = omega (arith, ints); ends = omega (arith, ints, few) } in
      subst IsDaily is daily
  over-daily from to seconds false test e = absurd (cc)

  if-daily : (missing : Option (Point × Point)) (from to : Point) (seconds : ℕ) → timed_if row missing from to seconds ≡ Ok trip →
      IsDaily trip
  if-daily None from to seconds e = over-daily from to seconds (nat_le (row.start + seconds) 172800) refl e
  if-daily (Some link) from to seconds e = absurd (cc)

  on-daily : (time_of : Point × Point → Option ℕ) (dwell_of : Point → ℕ) (course : List Point) →
      timed_on time_of dwell_of row course ≡ Ok trip → IsDaily trip
  on-daily time_of dwell_of [] e = absurd (cc)
  on-daily time_of dwell_of (first ∷ []) e = absurd (cc)
  on-daily time_of dwell_of (first ∷ (next ∷ course)) e =
      if-daily (first_missing time_of (links_from first (next ∷ course))) first (last_from next course)
      (run_seconds_of time_of (links_from first (next ∷ course)) + sum_by dwell_of (before_last next course)) e

  in-daily : (net : Net) (version : ℕ) (area : Option ℕ) → timed_in net version row area ≡ Ok trip → IsDaily trip
  in-daily net version None e = absurd (cc)
  in-daily net version (Some area) e =
      on-daily (run_time_of net version area row.group) (dwell_at net version row) (course_on net version row.line row.variant) e

  timed-daily : (net : Net) (version : ℕ) → timed net version row ≡ Ok trip → IsDaily trip
  timed-daily net version e = in-daily net version (area_on net version row.line row.variant) e

all-daily : (net : Net) (version : ℕ) (rows : List TripRow) (trips : List Trip) → timed_rows net version rows ≡ Ok trips →
    AllByRecursion IsDaily trips
all-daily net version [] trips e = let none : trips ≡ [] = cc in subst (AllByRecursion IsDaily) (sym none) tt
all-daily net version (row ∷ rows) trips e =
    let parts = joins row.fid (timed net version row) (timed_rows net version rows) trips e in
    let both : AllByRecursion IsDaily (parts.0 ∷ parts.1) =
    (timed-daily row parts.0 net version parts.2, all-daily net version rows parts.1 parts.3) in
    subst (AllByRecursion IsDaily) (sym parts.4) both

-- There is a row for each trip.
trip-count : (net : Net) (facts : DayFacts) → IsDayOf net facts.kind facts → length facts.rows ≡ length facts.trips
trip-count net facts day =
    let ordered : List DayTrip = day.rows.ordered in
    let places : length facts.rows ≡ length (map (λ (d : DayTrip). d.place) ordered) = ap length day.rows.are in
    let fids : length (map (λ (t : Trip). t.fid) facts.trips) ≡ length (map (λ (d : DayTrip). d.fid) ordered) =
    ap length (day-fids net facts day) in
    places
    ∙ (length-map ordered (λ (d : DayTrip). d.place)
    ∙ (sym (length-map ordered (λ (d : DayTrip). d.fid)) ∙ (sym fids ∙ length-map facts.trips (λ (t : Trip). t.fid))))

pub in-range : (net : Net) (facts : DayFacts) → HasRanges net → IsDayOf net facts.kind facts → AreInRange facts
in-range net facts ranges day =
    let version = facts.kind.version in
    let same = trip-count net facts day in
    let few = day.few in
    record {
      rows = same;
      few = omega (arith, same, few);
      daily = All-from_recursion IsDaily facts.trips (all-daily net version (rows_at net.trips facts.rows) facts.trips day.trips);
      params = subst HaveRanges (sym day.params) (params-in-range net version ranges day.faultless);
    }
