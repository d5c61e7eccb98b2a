-- Sums that stop past the last second, and the trip over a stop sequence.
use Rattle.std.proofs.Common.{◌≡◌, ℕ, ◌+◌, ◌<◌, List, [], ◌∷◌, ◌++◌, Option, Some, None, Result, Ok, Err, cond, refl, ap, sym, subst, ◌∙◌, arith, inl, inr, unwrap_or, min}
use Rattle.std.proofs.lemmas.Bool.Decides.{leb_tells}
use Rattle.std.specs.Prelude.{fold, sum_by}
use Rattle.plan_core.specs.declared.types.Point.{Point}
use Rattle.vdv452_rows.specs.declared.rows.TripRow.{TripRow}
use Rattle.trip_times.specs.declared.trip.Trip.{Trip}
use Rattle.trip_times.specs.declared.trip.TripFault.{TripFault}
use Rattle.trip_times.specs.declared.trip.TripFault.TheVariants.{PastEnd}
use Rattle.vdv452_tables.specs.LookUps.{links_from}
use Rattle.trip_times.specs.Courses.{before_last, last_from}
use Rattle.trip_times.specs.Runs.{runs_if}
use Rattle.trip_times.specs.Timing.{ended, first_missing, run_seconds_of, timed_if, timed_on, trip_over}

-- the sum of what is left on top of a sum
abbrev pub sum_on : {A : Type 0} → (A → ℕ) → ℕ → List A → ℕ
sum_on f start xs = fold (λ a x. a + f x) start xs

-- the run times of sections on top of a sum, or the first section without one
abbrev pub runs_on : (Point × Point → Option ℕ) → ℕ → List (Point × Point) → Result ℕ TripFault
runs_on time_of start links = runs_if (first_missing time_of links) (min (sum_on (λ link. unwrap_or (time_of link) 0) start links) 172801)

past_end : (row : TripRow) (from to : Point) (seconds : ℕ) → 172800 < row.start + seconds → ended row from to seconds ≡ Err PastEnd
past_end row from to seconds past = elim (leb_tells (row.start + seconds) 172800) [
  | inl (_, in_time) ↦ absurd (omega (arith, past, in_time))
  | inr (late, _) ↦ ap (λ b. cond b (Ok (trip_over row from to seconds)) (Err PastEnd)) late
]

-- Sums that stop past the last second decide whether the trip ends in time: run times and dwells are each added up to at most
-- 172801, one more than a trip may take. If the whole is within two days, neither sum was cut; if not, the cut sums are still past
-- the end, with any start. So the sums stay small, however long the stop sequence, and fault or trip are those of the full sums.
pub ended_capped : (row : TripRow) (from to : Point) (runs stands : ℕ) →
    ended row from to (min runs 172801 + min stands 172801) ≡ ended row from to (runs + stands)
ended_capped row from to runs stands = elim (leb_tells (runs + stands) 172800) [
  | inl (_, few) ↦ let same : min runs 172801 + min stands 172801 ≡ runs + stands = omega (arith, few) in ap (λ s. ended row from to s) same
  | inr (_, many) ↦ past_end row from to (min runs 172801 + min stands 172801) (omega (arith, many))
      ∙ sym (past_end row from to (runs + stands) (omega (arith, many)))
]

ends_with : (x : Point) (inner : List Point) (last : Point) →
    (last_from x (inner ++ last ∷ []) ≡ last) × (before_last x (inner ++ last ∷ []) ≡ x ∷ inner)
ends_with x [] last = (refl, refl)
ends_with x (y ∷ inner) last = let rest = ends_with y inner last in (rest.0, ap (λ ps. x ∷ ps) rest.1)

known_runs : (missing : Option (Point × Point)) (seconds runs : ℕ) → Ok seconds ≡ runs_if missing runs → (missing ≡ None) × (seconds ≡ runs)
known_runs None seconds runs is = (refl, cc)
known_runs (Some link) seconds runs is = absurd cc

module _ (time_of : Point × Point → Option ℕ) (dwell_of : Point → ℕ) (row : TripRow) where
  -- a stop sequence by its first point, its last point and the points between them
  by_ends : (first last : Point) (inner : List Point) → timed_on time_of dwell_of row (first ∷ (inner ++ last ∷ []))
      ≡ timed_if row (first_missing time_of (links_from first (inner ++ last ∷ []))) first last
      (run_seconds_of time_of (links_from first (inner ++ last ∷ [])) + sum_by dwell_of inner)
  by_ends first last [] = refl
  by_ends first last (y ∷ inner) =
      let ends = ends_with y inner last in
      λ i. timed_if row (first_missing time_of (links_from first (y ∷ (inner ++ last ∷ [])))) first (ends.0 i)
      (run_seconds_of time_of (links_from first (y ∷ (inner ++ last ∷ []))) + sum_by dwell_of (ends.1 i))

  module _ (course points inner : List Point) (first last : Point) (first_is : course ≡ first ∷ points)
      (last_is : points ≡ inner ++ last ∷ []) where
    over_points : timed_on time_of dwell_of row course ≡ timed_if row (first_missing time_of (links_from first points)) first last
        (run_seconds_of time_of (links_from first points) + sum_by dwell_of inner)
    over_points =
        let P : List Point → Type 0 =
        λ ps. timed_on time_of dwell_of row (first ∷ ps) ≡ timed_if row (first_missing time_of (links_from first ps)) first last
        (run_seconds_of time_of (links_from first ps) + sum_by dwell_of inner) in
        ap (λ ps. timed_on time_of dwell_of row ps) first_is ∙ subst P (sym last_is) (by_ends first last inner)

    -- The trip of a stop sequence from what the code gathers: its first point, its last point, the points between, the run times and the
    -- dwells. The definition takes a stop sequence apart from the front, the code has both ends at hand; `by_ends` shows that they name
    -- the same points. With `ended_capped` the cut sums give the same answer, so `time_trip` is as defined.
    pub course_end : (seconds stands : ℕ) (result : Result Trip TripFault)
        → Ok seconds ≡ runs_if (first_missing time_of (links_from first points))
        (min (run_seconds_of time_of (links_from first points)) 172801)
        → stands ≡ min (sum_by dwell_of inner) 172801 → result ≡ ended row first last (seconds + stands) →
        result ≡ timed_on time_of dwell_of row course
    course_end seconds stands result runs_are stands_are result_is =
        let runs : ℕ = run_seconds_of time_of (links_from first points) in
        let known = known_runs (first_missing time_of (links_from first points)) seconds (min runs 172801) runs_are in
        result_is ∙ (λ i. ended row first last (known.1 i + stands_are i)) ∙ ended_capped row first last runs (sum_by dwell_of inner)
        ∙ (λ i. timed_if row (sym known.0 i) first last (runs + sum_by dwell_of inner)) ∙ sym over_points
