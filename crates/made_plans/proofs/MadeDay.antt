-- The trips, the settings and the deadheads of a made day.
use Rattle.std.proofs.Common.{◌≡◌, ℕ, suc, ◌+◌, ◌≤◌, Bool, cond, true, false, All, List, [], ◌∷◌, length, Option, Some, None, Result, Ok, Err, refl, sym, ap, subst, ◌∙◌, arith, nat_le, slice_get}
use Rattle.std.specs.Prelude.{if◌then◌else◌, map, unwrap_or}
use Rattle.std.specs.Option.{option_map}
use Rattle.std.proofs.lemmas.Bool.Decides.{nat_tests}
use Rattle.std.proofs.lemmas.List.{length-map}
use Rattle.std.proofs.lemmas.List.Elements.{All-cons, All-head, All-nil, All-tail}
use Rattle.std.proofs.lemmas.List.Sorted.{length_permutation}
use Rattle.std.proofs.lemmas.Option.{get_or_from_slice_get, slice_get_within}
use Rattle.plan_core.specs.declared.types.Point.{Point}
use Rattle.vdv452_rows.specs.declared.rows.TripRow.{TripRow}
use Rattle.vdv452_rows.specs.declared.rows.VersionRow.{VersionRow}
use Rattle.vdv452_rows.specs.TypedRows.{version_row}
use Rattle.vdv452_tables.specs.Calendar.{latest, version_on}
use Rattle.vdv452_tables.specs.Keys.{dead_key_of, move_key_eq, point_eq, value_at}
use Rattle.vdv452_tables.specs.LookUps.{dead_time_on}
use Rattle.day_calendar.specs.declared.trips.DayTrip.{DayTrip}
use Rattle.day_calendar.specs.DayTrips.{AreDayRows, day_trips, is_of_day, trips_from}
use Rattle.trip_times.specs.declared.trip.Trip.{Trip}
use Rattle.trip_times.specs.declared.trip.TripFault.{TripFault}
use Rattle.trip_times.specs.Timing.{timed}
use Rattle.plan_params.specs.declared.rows.ParamRows.{ParamRows}
use Rattle.plan_params.specs.declared.rows.group.Group.{Group}
use Rattle.plan_params.specs.declared.rows.pool.Pool.{Pool}
use Rattle.plan_params.specs.Settings.{group_of, params_of, pool_of, relief_of, settings_of, way_of, in_order}
use Rattle.day_model.specs.declared.fault.DayModelFault.{DayModelFault}
use Rattle.day_model.specs.Building.{joined, named, rows_at, timed_rows}
use Rattle.day_model.specs.Facts.{DayFacts, dead}
use Rattle.day_maker.specs.Made.{places, terminals}
use Rattle.made_plans.specs.MadeDays.{IsMadeDay}
use Rattle.made_plans.specs.MadeRows.{made_net, rows_each, dead_rows, way_rows, relief_rows}
use Rattle.made_plans.specs.MadeTrips.{IsMadeRow, IsMadeTrip}
use Rattle.made_plans.proofs.MadeNet.{deads_are, depots_are, drivers_are, reliefs_are, ways_are}
use Rattle.made_plans.proofs.MadeTripRows.{trips_count, trips_made}
use Rattle.made_plans.proofs.MadeTimes.{row_timed, trip_made}

-- the two pools, and the two groups
abbrev pub made_pool : ℕ → ℕ → ℕ → Pool
made_pool number depot trips = pool_of (number ∷ 2 ∷ depot ∷ 1 ∷ trips ∷ 100000 ∷ 20 ∷ 5 ∷ [])

abbrev pub made_group : ℕ → ℕ → ℕ → Group
made_group number home trips = group_of (number ∷ 2 ∷ home ∷ trips ∷ 20000 ∷ 5 ∷ 600 ∷ 300 ∷ 0 ∷ 0 ∷ [])

-- the settings of a made day
abbrev pub made_params : ℕ → ParamRows
made_params trips = record {
  settings = settings_of (1 ∷ 1 ∷ 300 ∷ 7200 ∷ 300 ∷ []);
  pools = made_pool 1 101 trips ∷ made_pool 2 102 trips ∷ [];
  groups = made_group 1 101 trips ∷ made_group 2 102 trips ∷ [];
  admissions = [];
  reliefs = map relief_of (rows_each relief_rows terminals);
  ways = map way_of (rows_each (λ from. way_rows from places) places);
}

-- the time of a deadhead of a made day
abbrev pub made_dead : Point → Point → Option ℕ
made_dead from to =
    if point_eq from to then Some 0 else
    value_at move_key_eq dead_key_of (λ row. row.time) (rows_each (λ from. dead_rows from places) places)
    (record { version = 1; area = 1; group = 1; from = from; to = to })

-- what is told of a made day
pub record IsMade (trips : ℕ) (day : DayFacts) : Type 0 where
  pub params_are : day.params ≡ made_params trips
  pub deads_are : (from to : Point) → dead day from to ≡ made_dead from to
  pub trips_are : All IsMadeTrip day.trips
  pub few : length day.trips ≤ trips

params_made : (seed trips : ℕ) → trips ≤ 3000 → params_of (made_net seed trips) ≡ made_params trips
params_made seed trips few =
    let test : nat_le trips 10000 ≡ true = grind (arith, nat_tests) in
    let pools : List (List ℕ) → List Pool = λ rows. in_order (λ (pool : Pool). pool.number) (map pool_of rows) in
    let groups : List (List ℕ) → List Group = λ rows. in_order (λ (group : Group). group.number) (map group_of rows) in
    let pools_are = ap pools (depots_are seed trips test) in
    let groups_are = ap groups (drivers_are seed trips test) in
    let ways_same = ap (map way_of) (ways_are seed trips) in
    let reliefs_same = ap (map relief_of) (reliefs_are seed trips) in
    λ i. record {
      settings = settings_of (1 ∷ 1 ∷ 300 ∷ 7200 ∷ 300 ∷ []);
      pools = pools_are i;
      groups = groups_are i;
      admissions = [];
      reliefs = reliefs_same i;
      ways = ways_same i;
    }

-- the rows at places are made rows, and no more than the places
pub rows_at_made : (rows : List TripRow) (places : List ℕ) → All IsMadeRow rows →
    All IsMadeRow (rows_at rows places) × (length (rows_at rows places) ≤ length places)
rows_at_made rows [] all = (All-nil IsMadeRow, omega arith)
rows_at_made rows (place ∷ places) all = by (slice_get rows place) refl (rows_at_made rows places all)
  where
    by : (o : Option TripRow) → slice_get rows place ≡ o →
        All IsMadeRow (rows_at rows places) × (length (rows_at rows places) ≤ length places) →
        All IsMadeRow (rows_at rows (place ∷ places)) × (length (rows_at rows (place ∷ places)) ≤ suc (length places))
    by None is rest = rw is (rest.0, omega (arith, rest.1))
    by (Some row) is rest =
        let here : IsMadeRow row =
        (let P : TripRow → Type 0 = λ row. IsMadeRow row in
        subst P (get_or_from_slice_get rows place row row is) (all place row (slice_get_within rows place row is))) in
        rw is (All-cons IsMadeRow row (rows_at rows places) here rest.0, omega (arith, rest.1))

-- trips that are joined
joins : (fid : ℕ) (one : Result Trip TripFault) (others : Result (List Trip) DayModelFault) (trips : List Trip) →
    joined (named fid one) others ≡ Ok trips →
    (t : Trip) × (ts : List Trip) × (one ≡ Ok t) × (others ≡ Ok ts) × ((t ∷ ts) ≡ trips)
joins fid (Err fault) others trips e = absurd (cc)
joins fid (Ok t) (Err fault) trips e = absurd (cc)
joins fid (Ok t) (Ok ts) trips e = (t, ts, refl, refl, ok_same (t ∷ ts) trips e)
  where
    ok_same : (x y : List Trip) → ◌≡◌ {A = Result (List Trip) DayModelFault} (Ok x) (Ok y) → x ≡ y
    ok_same x y e = let f : Result (List Trip) DayModelFault →
        List Trip = λ r. elim r as (λ r. List Trip) [ Ok z ↦ z | Err z ↦ x ] in ap f e

ok_none : (ts : List Trip) → ◌≡◌ {A = Result (List Trip) DayModelFault} (Ok []) (Ok ts) → [] ≡ ts
ok_none ts e = let f : Result (List Trip) DayModelFault → List Trip = λ r. elim r as (λ r. List Trip) [ Ok z ↦ z | Err z ↦ [] ] in ap f e

-- Made rows that are timed are made trips. Each row of a made day has its times where all have, and a row that is timed is a made
-- trip; so the trips of the day are made trips, as many as there are rows.
timed_made : (seed trips : ℕ) (rows : List TripRow) (ts : List Trip) → All IsMadeRow rows →
    timed_rows (made_net seed trips) 1 rows ≡ Ok ts → All IsMadeTrip ts × (length ts ≡ length rows)
timed_made seed trips [] ts all e =
    let P : List Trip → Type 0 = λ ts. All IsMadeTrip ts × (length ts ≡ 0) in subst P (ok_none ts e) (All-nil IsMadeTrip, refl)
timed_made seed trips (row ∷ rows) ts all e =
    let (first, rest, first_is, rest_is, is) =
    joins row.fid (timed (made_net seed trips) 1 row) (timed_rows (made_net seed trips) 1 rows) ts e in
    let (others, many) = timed_made seed trips rows rest (All-tail IsMadeRow row rows all) rest_is in
    let here = trip_made seed trips row (All-head IsMadeRow row rows all) first first_is in
    let P : List Trip → Type 0 = λ ts. All IsMadeTrip ts × (length ts ≡ suc (length rows)) in
    subst P is (All-cons IsMadeTrip first rest here others, ap suc many)

-- a day has no more trips than there are rows
few_from : (version kind place : ℕ) (rows : List TripRow) → length (trips_from version kind place rows) ≤ length rows
few_from version kind place [] = omega arith
few_from version kind place (row ∷ rows) = by (is_of_day version kind row) (few_from version kind (place + 1) rows)
  where
    by : (b : Bool) → length (trips_from version kind (place + 1) rows) ≤ length rows →
        length (if b then record { start = row.start; fid = row.fid; place = place } ∷ trips_from version kind (place + 1) rows else
        trips_from version kind (place + 1) rows) ≤ suc (length rows)
    by true rest = omega (arith, rest)
    by false rest = omega (arith, rest)

-- the places of the trips of a day
pub places_few : (seed trips version kind : ℕ) (places : List ℕ) → AreDayRows (made_net seed trips).trips version kind places →
    length places ≤ trips
places_few seed trips version kind places rows =
    let places_many = ap length rows.are ∙ length-map rows.ordered (λ (trip : DayTrip). trip.place) in
    let ordered_many = length_permutation (day_trips (made_net seed trips).trips version kind) rows.ordered rows.same in
    let less = few_from version kind 0 (made_net seed trips).trips in
    omega (arith, places_many, ordered_many, less, trips_count seed trips)

-- rows that can be timed are timed
pub rows_timed : (seed trips : ℕ) (rows : List TripRow) → All IsMadeRow rows →
    (ts : List Trip) × (timed_rows (made_net seed trips) 1 rows ≡ Ok ts)
rows_timed seed trips [] all = ([], refl)
rows_timed seed trips (row ∷ rows) all =
    let (t, first) = row_timed seed trips row (All-head IsMadeRow row rows all) in
    let (ts, rest) = rows_timed seed trips rows (All-tail IsMadeRow row rows all) in
    (t ∷ ts, rw (first, rest) refl)

-- the one version of a made day
pub one_version : (seed trips day version : ℕ) → version_on (made_net seed trips) day ≡ Some version → 1 ≡ version
unfolding version_row
one_version seed trips day version = by (nat_le 20260101 day)
  where
    by : (b : Bool) → option_map (λ (row : VersionRow). row.version) (latest (cond b (record { day = 20260101; version = 1 } ∷ []) []))
        ≡ Some version → 1 ≡ version
    by true e = let f : Option ℕ → ℕ = λ o. unwrap_or o 1 in ap f e
    by false e = absurd (cc)

-- The tables hold no draw but in the rows of trips: settings, pools, groups, ways and deadheads are computed once for all seeds. Of
-- the trips it is enough to know that each goes from a terminal to another, when it begins at the earliest, and how long it takes at
-- most.
pub made_is : (seed trips day : ℕ) (facts : DayFacts) → trips ≤ 3000 → IsMadeDay seed trips day facts → IsMade trips facts
made_is seed trips day facts few made =
    let version : 1 ≡ facts.kind.version = one_version seed trips day facts.kind.version made.kind_is.version in
    let params = made.day_is.params ∙ params_made seed trips few in
    let rows = made.day_is.rows in
    let (all, within) = rows_at_made (made_net seed trips).trips facts.rows (trips_made seed trips) in
    let timed_is : timed_rows (made_net seed trips) 1 (rows_at (made_net seed trips).trips facts.rows) ≡ Ok facts.trips =
    ap (λ v. timed_rows (made_net seed trips) v (rows_at (made_net seed trips).trips facts.rows)) version ∙ made.day_is.trips in
    let (trips_are, many) = timed_made seed trips (rows_at (made_net seed trips).trips facts.rows) facts.trips all timed_is in
    let less = places_few seed trips facts.kind.version facts.kind.kind facts.rows rows in
    let area = ap (λ (p : ParamRows). p.settings.area) params in
    let group = ap (λ (p : ParamRows). p.settings.group) params in
    record {
      params_are = params;
      deads_are = λ from to.
          made.day_is.deads from to
          ∙ ap (λ v. if point_eq from to then Some 0 else dead_time_on (made_net seed trips) v facts.params.settings.area
          facts.params.settings.group from to) (sym version)
          ∙ ap (λ a. if point_eq from to then Some 0 else dead_time_on (made_net seed trips) 1 a facts.params.settings.group from to) area
          ∙ ap (λ g. if point_eq from to then Some 0 else dead_time_on (made_net seed trips) 1 1 g from to) group
          ∙ ap (λ rows. if point_eq from to then Some 0 else value_at move_key_eq dead_key_of (λ row. row.time) rows
          (record { version = 1; area = 1; group = 1; from = from; to = to })) (deads_are seed trips);
      trips_are = trips_are;
      few = omega (arith, many, within, less);
    }
