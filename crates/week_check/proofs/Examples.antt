-- Small rosters, by computation. The days from 2 to 6 March 2026 are a Monday to a Friday, with the numbers from 20,514 to 20,518.
use Rattle.std.specs.Prelude.{◌≡◌, ℕ, ◌+◌, Bool, true, false, [], ◌∷◌, ℤ, pos, ◌+ℤ◌, ◌*ℤ◌, refl}
use Rattle.jiff_core.specs.Calendar.{day_count, days_from_civil, days_of_months, days_of_years, weekday_number}
use Rattle.week_check.specs.declared.turn.Turn.{Turn}
use Rattle.week_check.specs.Denials.{finding, findings_of, weeks_from}

-- a duty of driver 1 so many days after 2 March
duty : ℕ → ℤ → ℤ → ℕ → Bool → Turn
duty after begin end driving three = record {
  driver = 1;
  day = 20260302 + after;
  begin = (pos 86400 *ℤ pos (20514 + after)) +ℤ begin;
  end = (pos 86400 *ℤ pos (20514 + after)) +ℤ end;
  driving = driving;
  three = three;
}

-- three duties of nearly ten hours of driving in a week: the third one is denied
long : ℕ → Turn
unfolding duty
long after = duty after (pos 20000) (pos 60000) 34000 false

-- five duties with rests of 36,400 seconds: the fourth reduced rest is denied
short : Bool → ℕ → Turn
unfolding duty
short three after = duty after (pos 20000) (pos 70000) 20000 three

third_long : findings_of (long 0 ∷ long 1 ∷ long 2 ∷ []) ≡ finding 1 61 (pos 20516) (pos 20516) (pos 34000) ∷ []
unfolding long duty days_from_civil day_count days_of_years days_of_months weekday_number
third_long = refl

fourth_reduced : findings_of (short false 0 ∷ short false 1 ∷ short false 2 ∷ short false 3 ∷ short false 4 ∷ [])
    ≡ finding 1 84 (pos 20517) (pos 20518) (pos 4) ∷ []
unfolding short duty days_from_civil day_count days_of_years days_of_months weekday_number
fourth_reduced = refl

split_rests : findings_of (short true 0 ∷ short true 1 ∷ short true 2 ∷ short true 3 ∷ short true 4 ∷ []) ≡ []
unfolding short duty days_from_civil day_count days_of_years days_of_months weekday_number
split_rests = refl

second_too_few : findings_of (duty 0 (pos 0) (pos 54001) 100 false ∷ []) ≡ finding 1 82 (pos 20514) (pos 20514) (pos 32399) ∷ []
unfolding duty days_from_civil day_count days_of_years days_of_months weekday_number
second_too_few = refl

-- a duty of nine hours of driving
nine : ℕ → Turn
unfolding duty
nine after = duty after (pos 20000) (pos 60000) 32400 false

-- 63 hours in the week that ends on 8 March
full_week : findings_of (nine 0 ∷ nine 1 ∷ nine 2 ∷ nine 3 ∷ nine 4 ∷ nine 5 ∷ nine 6 ∷ [])
    ≡ finding 1 62 (pos 20514) (pos 20520) (pos 226800) ∷ []
unfolding nine duty days_from_civil day_count days_of_years days_of_months weekday_number
full_week = refl

-- 54 hours in that week and 45 in the next
two_weeks : weeks_from (nine 0 ∷ nine 1 ∷ nine 2 ∷ nine 3 ∷ nine 4 ∷ nine 5 ∷ nine 7 ∷ nine 8 ∷ nine 9 ∷ nine 10 ∷ nine 11 ∷ []) []
    (nine 0 ∷ nine 1 ∷ nine 2 ∷ nine 3 ∷ nine 4 ∷ nine 5 ∷ nine 7 ∷ nine 8 ∷ nine 9 ∷ nine 10 ∷ nine 11 ∷ [])
    ≡ finding 1 63 (pos 20514) (pos 20527) (pos 356400) ∷ []
unfolding nine duty days_from_civil day_count days_of_years days_of_months weekday_number
two_weeks = refl
