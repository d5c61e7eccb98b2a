-- The times of the trips of a made day.
use Rattle.std.proofs.Common.{◌≡◌, ℕ, zero, suc, ◌+◌, ◌*◌, ◌≤◌, Bool, true, false, cond, [], ◌∷◌, Option, Some, Result, Ok, Err, refl, sym, ap, subst, ◌∙◌, arith, nat_le}
use Rattle.std.specs.Prelude.{if◌then◌else◌, unwrap_or}
use Rattle.std.proofs.lemmas.Int.{ints}
use Rattle.std.proofs.lemmas.Bool.{le-leb}
use Rattle.plan_core.specs.declared.types.Point.{Point}
use Rattle.vdv452_rows.specs.declared.rows.TripRow.{TripRow}
use Rattle.vdv452_tables.specs.Keys.{group_dwell_key_eq, group_dwell_key_of, line_key_eq, line_key_of, move_key_eq, named, run_key_of, trip_dwell_key_eq, trip_dwell_key_of, value_at}
use Rattle.vdv452_tables.specs.LookUps.{area_on, course_on, group_dwell_on, points_of, run_time_on, stops_in_order}
use Rattle.trip_times.specs.declared.trip.Trip.{Trip}
use Rattle.trip_times.specs.declared.trip.TripFault.{TripFault}
use Rattle.trip_times.specs.declared.trip.TripFault.TheVariants.{PastEnd}
use Rattle.trip_times.specs.Timing.{dwell_at, ended, run_time_of, timed, timed_in, timed_on, trip_over}
use Rattle.day_maker.specs.Made.{lines, variant_name}
use Rattle.made_plans.specs.MadeRows.{made_net, point, rows_each, line_rows, stop_rows, run_rows, dwell_rows}
use Rattle.made_plans.specs.MadeTrips.{IsMadeRow, IsMadeTrip, IsTerminal}
use Rattle.made_plans.proofs.MadeNet.{lines_are, stops_are, runs_are, dwells_are, no_dwells}

-- what holds of each line
by_line : (P : ℕ → Type 0) → P 1 → P 2 → P 3 → P 4 → P 5 → P 6 → P 7 → (l : ℕ) → 1 ≤ l → l ≤ 7 → P l
by_line P a b c d e f g zero low high = absurd (omega (arith, low))
by_line P a b c d e f g (suc zero) low high = a
by_line P a b c d e f g (suc (suc zero)) low high = b
by_line P a b c d e f g (suc (suc (suc zero))) low high = c
by_line P a b c d e f g (suc (suc (suc (suc zero)))) low high = d
by_line P a b c d e f g (suc (suc (suc (suc (suc zero))))) low high = e
by_line P a b c d e f g (suc (suc (suc (suc (suc (suc zero)))))) low high = f
by_line P a b c d e f g (suc (suc (suc (suc (suc (suc (suc zero))))))) low high = g
by_line P a b c d e f g (suc (suc (suc (suc (suc (suc (suc (suc n)))))))) low high = absurd (omega (arith, high))

-- the stop sequence of a variant: over the inner point to the other terminal
abbrev start_of : Bool → ℕ → ℕ
start_of out l = cond out l (l + 1)

abbrev end_of : Bool → ℕ → ℕ
end_of out l = cond out (l + 1) l

pub record HasCourse (l : ℕ) (out : Bool) : Type 0 where
  pub area : value_at line_key_eq line_key_of (λ row. row.area) (rows_each line_rows lines) (named 1 l (variant_name out)) ≡ Some 1
  pub course : points_of (named 1 l (variant_name out)) (stops_in_order (rows_each stop_rows lines)) ≡ point (start_of out l) ∷ point (10 + l)
      ∷ point (end_of out l) ∷ []
  pub first : value_at move_key_eq run_key_of (λ row. row.time) (rows_each run_rows lines)
      (record { version = 1; area = 1; group = 1; from = point (start_of out l); to = point (10 + l) }) ≡ Some (2400 + 60 * l)
  pub second : value_at move_key_eq run_key_of (λ row. row.time) (rows_each run_rows lines)
      (record { version = 1; area = 1; group = 1; from = point (10 + l); to = point (end_of out l) }) ≡ Some (2400 + 60 * l)
  pub dwell : value_at group_dwell_key_eq group_dwell_key_of (λ row. row.time) (rows_each dwell_rows lines)
      (record { version = 1; group = 1; at = point (10 + l) }) ≡ Some 60

both : (P : Bool → Type 0) → P true → P false → (out : Bool) → P out
both P front back true = front
both P front back false = back

abbrev Courses : ℕ → Type 0
Courses l = (out : Bool) → HasCourse l out

-- Seven lines go out and back; of these fourteen variants the stops, both run times and the dwell are looked up in the tables by
-- computing. The times are told by the line's number, so all that follows is arithmetic over it.
courses : (l : ℕ) → 1 ≤ l → l ≤ 7 → Courses l
courses =
    by_line Courses
    (both (HasCourse 1) (record { area = refl; course = refl; first = refl; second = refl; dwell = refl })
    (record { area = refl; course = refl; first = refl; second = refl; dwell = refl }))
    (both (HasCourse 2) (record { area = refl; course = refl; first = refl; second = refl; dwell = refl })
    (record { area = refl; course = refl; first = refl; second = refl; dwell = refl }))
    (both (HasCourse 3) (record { area = refl; course = refl; first = refl; second = refl; dwell = refl })
    (record { area = refl; course = refl; first = refl; second = refl; dwell = refl }))
    (both (HasCourse 4) (record { area = refl; course = refl; first = refl; second = refl; dwell = refl })
    (record { area = refl; course = refl; first = refl; second = refl; dwell = refl }))
    (both (HasCourse 5) (record { area = refl; course = refl; first = refl; second = refl; dwell = refl })
    (record { area = refl; course = refl; first = refl; second = refl; dwell = refl }))
    (both (HasCourse 6) (record { area = refl; course = refl; first = refl; second = refl; dwell = refl })
    (record { area = refl; course = refl; first = refl; second = refl; dwell = refl }))
    (both (HasCourse 7) (record { area = refl; course = refl; first = refl; second = refl; dwell = refl })
    (record { area = refl; course = refl; first = refl; second = refl; dwell = refl }))

-- A stop sequence of three points. A trip over three points lasts the run times of both sections and the dwell between them.
three : (time_of : Point × Point → Option ℕ) (dwell_of : Point → ℕ) (row : TripRow) (a m b : Point) (s t d : ℕ) → time_of (a, m) ≡ Some s →
    time_of (m, b) ≡ Some t → dwell_of m ≡ d →
    timed_on time_of dwell_of row (a ∷ m ∷ b ∷ []) ≡ ended row a b (s + t + d)
three time_of dwell_of row a m b s t d first second dwell =
    let whole : 0 + s + t + (0 + d) ≡ s + t + d = omega arith in
    rw (first, second, dwell) (ap (λ n. ended row a b n) whole)

ended_ok : (row : TripRow) (a b : Point) (n : ℕ) (t : Trip) → ended row a b n ≡ Ok t → trip_over row a b n ≡ t
ended_ok row a b n t = by (nat_le (row.start + n) 172800)
  where
    ok_same : (x y : Trip) → ◌≡◌ {A = Result Trip TripFault} (Ok x) (Ok y) → x ≡ y
    ok_same x y e = let f : Result Trip TripFault → Trip = λ r. elim r as (λ r. Trip) [ Ok z ↦ z | Err z ↦ x ] in ap f e

    by : (c : Bool) → ◌≡◌ {A = Result Trip TripFault} (if c then Ok (trip_over row a b n) else Err PastEnd) (Ok t) → trip_over row a b n ≡ t
    by true e = ok_same (trip_over row a b n) t e
    by false e = absurd (cc)

module _ (seed trips : ℕ) (row : TripRow) (made : IsMadeRow row) where
  abbrev l : ℕ
  l = made.line

  abbrev out : Bool
  out = made.out

  course_is : HasCourse l out
  course_is = courses l made.low made.high out

  area_is : area_on (made_net seed trips) 1 row.line row.variant ≡ Some 1
  area_is =
      ap (λ n. area_on (made_net seed trips) 1 n row.variant) made.line_is ∙ ap (λ v. area_on (made_net seed trips) 1 l v) made.variant_is
      ∙ ap (λ rows. value_at line_key_eq line_key_of (λ row. row.area) rows (named 1 l (variant_name out))) (lines_are seed trips)
      ∙ course_is.area

  points_are : course_on (made_net seed trips) 1 row.line row.variant ≡ point (start_of out l) ∷ point (10 + l) ∷ point (end_of out l) ∷ []
  points_are =
      ap (λ n. course_on (made_net seed trips) 1 n row.variant) made.line_is
      ∙ ap (λ v. course_on (made_net seed trips) 1 l v) made.variant_is
      ∙ ap (λ rows. points_of (named 1 l (variant_name out)) (stops_in_order rows)) (stops_are seed trips) ∙ course_is.course

  run_is : (from to : Point) (s : ℕ) →
      value_at move_key_eq run_key_of (λ row. row.time) (rows_each run_rows lines)
      (record { version = 1; area = 1; group = 1; from = from; to = to }) ≡ Some s →
      run_time_of (made_net seed trips) 1 1 row.group (from, to) ≡ Some s
  run_is from to s is =
      ap (λ g. run_time_on (made_net seed trips) 1 1 g from to) made.group_is
      ∙ ap (λ rows. value_at move_key_eq run_key_of (λ row. row.time) rows
      (record { version = 1; area = 1; group = 1; from = from; to = to })) (runs_are seed trips) ∙ is

  dwell_is : dwell_at (made_net seed trips) 1 row (point (10 + l)) ≡ 60
  dwell_is =
      ap (λ rows. unwrap_or (value_at trip_dwell_key_eq trip_dwell_key_of (λ row. row.time) rows
      (record { version = 1; fid = row.fid; at = point (10 + l) }))
      (unwrap_or (group_dwell_on (made_net seed trips) 1 row.group (point (10 + l))) 0)) (no_dwells seed trips)
      ∙ ap (λ g. unwrap_or (group_dwell_on (made_net seed trips) 1 g (point (10 + l))) 0) made.group_is
      ∙ ap (λ rows. unwrap_or
      (value_at group_dwell_key_eq group_dwell_key_of (λ row. row.time) rows (record { version = 1; group = 1; at = point (10 + l) })) 0)
      (dwells_are seed trips)
      ∙ ap (λ o. unwrap_or o 0) course_is.dwell

  -- A row names its line and variant, and these are looked up in the tables of the made network, which are the same for all seeds. So
  -- all of the trip's times are known but its departure.
  timed_is : timed (made_net seed trips) 1 row ≡ ended row (point (start_of out l)) (point (end_of out l))
      (2400 + 60 * l + (2400 + 60 * l) + 60)
  timed_is =
      ap (λ o. timed_in (made_net seed trips) 1 row o) area_is
      ∙ ap (λ ps. timed_on (run_time_of (made_net seed trips) 1 1 row.group) (dwell_at (made_net seed trips) 1 row) row ps) points_are
      ∙ three (run_time_of (made_net seed trips) 1 1 row.group) (dwell_at (made_net seed trips) 1 row) row (point (start_of out l))
      (point (10 + l)) (point (end_of out l)) (2400 + 60 * l) (2400 + 60 * l) 60
      (run_is (point (start_of out l)) (point (10 + l)) (2400 + 60 * l) course_is.first)
      (run_is (point (10 + l)) (point (end_of out l)) (2400 + 60 * l) course_is.second) dwell_is

  -- each row has its times
  pub row_timed : (t : Trip) × (timed (made_net seed trips) 1 row ≡ Ok t)
  row_timed =
      let seconds : ℕ = 2400 + 60 * l + (2400 + 60 * l) + 60 in
      let from : Point = point (start_of out l) in
      let to : Point = point (end_of out l) in
      let latest = made.latest in
      let high = made.high in
      let within : nat_le (row.start + seconds) 172800 ≡ true = le-leb (row.start + seconds) 172800 (omega (arith, latest, high)) in
      let ended_is : ended row from to seconds ≡ Ok (trip_over row from to seconds) =
      ap (λ b. if b then Ok (trip_over row from to seconds) else Err PastEnd) within in
      (trip_over row from to seconds, timed_is ∙ ended_is)

  terminal : (b : Bool) → IsTerminal (cond b l (l + 1))
  terminal true = record { low = made.low; high = omega (arith, made.high) }
  terminal false = record { low = omega arith; high = omega (arith, made.high) }

  other : (b : Bool) → IsTerminal (cond b (l + 1) l)
  other true = terminal false
  other false = terminal true

  pub trip_made : (t : Trip) → timed (made_net seed trips) 1 row ≡ Ok t → IsMadeTrip t
  trip_made t e =
      let is = ended_ok row (point (start_of out l)) (point (end_of out l)) (2400 + 60 * l + (2400 + 60 * l) + 60) t (sym timed_is ∙ e) in
      let P : Trip → Type 0 = λ t. IsMadeTrip t in
      let begins = made.begins in
      let high = made.high in
      subst P is (record {
        from = start_of out l;
        to = end_of out l;
        from_there = terminal out;
        to_there = other out;
        from_is = refl;
        to_is = refl;
        begins = omega (arith, ints, begins);
        seconds = 2400 + 60 * l + (2400 + 60 * l) + 60;
        lasts = omega (arith, ints);
        short = omega (arith, high);
      })
