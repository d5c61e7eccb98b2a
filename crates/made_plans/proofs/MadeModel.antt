-- No reason stands against a day of the tables that are made from a seed.
use Rattle.std.proofs.Common.{◌≡◌, ℕ, ◌≤◌, false, List, length, Some, None, refl, sym, ap, ◌∙◌, arith, nat_lt}
use Rattle.std.specs.Prelude.{if◌then◌else◌}
use Rattle.std.proofs.lemmas.Bool.Decides.{nat_tests}
use Rattle.std.proofs.lemmas.Int.{ints}
use Rattle.day_calendar.specs.declared.day.DayKind.{DayKind}
use Rattle.day_calendar.specs.Days.{IsCivilDay}
use Rattle.vdv452_rows.specs.TypedRows.{version_row, calendar_row, point_row, type_row}
use Rattle.plan_params.specs.Faults.{first_fault}
use Rattle.day_model.specs.declared.fault.DayModelFault.TheVariants as faults
use Rattle.day_model.specs.Building.{day_fault, rows_at, settings_or, timed_rows, timing_fault}
use Rattle.made_plans.specs.MadeRows.{made_net}
use Rattle.made_plans.specs.MadeTables.{HasKind, HasNoDayFault}
use Rattle.made_plans.proofs.MadeDay.{one_version, places_few, rows_at_made, rows_timed}
use Rattle.made_plans.proofs.MadeTripRows.{trips_made}

settings_right : (seed trips : ℕ) → first_fault (made_net seed trips) 1 ≡ None
unfolding first_fault point_row type_row
settings_right seed trips = refl

fault_none : (seed trips : ℕ) (kind : DayKind) (places : List ℕ) → 1 ≡ kind.version → length places ≤ 3000 →
    day_fault (made_net seed trips) kind places ≡ None
fault_none seed trips kind places version few =
    let (all, within) = rows_at_made (made_net seed trips).trips places (trips_made seed trips) in
    let (ts, timed) = rows_timed seed trips (rows_at (made_net seed trips).trips places) all in
    let test : nat_lt 3000 (length places) ≡ false = grind (arith, nat_tests) in
    ap (λ b. if b then Some (faults.TooManyTrips (length places)) else settings_or (first_fault (made_net seed trips) kind.version)
    (timing_fault (timed_rows (made_net seed trips) kind.version (rows_at (made_net seed trips).trips places)))) test
    ∙ ap (λ v. settings_or (first_fault (made_net seed trips) v)
    (timing_fault (timed_rows (made_net seed trips) v (rows_at (made_net seed trips).trips places)))) (sym version)
    ∙ ap (λ o. settings_or o (timing_fault (timed_rows (made_net seed trips) 1 (rows_at (made_net seed trips).trips places))))
    (settings_right seed trips)
    ∙ ap (λ r. timing_fault r) timed

pub no_day_fault : (seed trips : ℕ) → trips ≤ 3000 → HasNoDayFault seed trips
no_day_fault seed trips few day kind fault kind_is has =
    let version = one_version seed trips day kind.version kind_is.version in
    let less = places_few seed trips kind.version kind.kind has.places has.rows in
    let none : None ≡ Some fault = sym (fault_none seed trips kind has.places version (omega (arith, less, few))) ∙ has.is in
    absurd (cc)

civil : IsCivilDay 20260302
civil = (
  omega arith,
  (
    (omega (arith, ints), omega (arith, ints)),
    (omega (arith, ints), omega (arith, ints)),
    (
      omega (arith, ints),
      omega (arith, ints),
    ),
  ),
)

pub has_kind : (seed trips : ℕ) → HasKind seed trips 20260302
unfolding version_row calendar_row
has_kind seed trips = record { civil = civil; version = refl; kind_is = refl }
