-- Promise: what articles 6(1) to 6(3), 8(2) and 8(4) of Regulation (EC) 561/2006 deny of the duties of drivers.
use Rattle.std.specs.Prelude.{◌≡◌, ℕ, ◌+◌, nat_le, nat_lt, Bool, true, false, ◌&&◌, ◌||◌, List, [], ◌∷◌, ◌++◌, length, map, filter, if◌then◌else◌, ℤ, pos, ◌+ℤ◌, int_lt, sum_by, All, IsPermutation, IsSorted}
use Rattle.std.specs.List.{list_any, flat_map}
use Rattle.std.specs.Ordering.{nat_cmp, int_cmp, int_eq, ordering_then}
use Rattle.std.specs.declared.cmp.Ordering.{Ordering}
use Rattle.week_check.specs.declared.turn.Turn.{Turn}
use Rattle.week_check.specs.declared.rest.Rest.{Rest}
use Rattle.week_check.specs.declared.denial.Denial.{Denial}
use Rattle.week_check.specs.Days.{IsDay, number_of, week_of}
use Rattle.week_check.specs.Duties.{drivers_lists, is_reduced, reduced_in, rests_of, turn_order}

-- a denial by the numbers of its days
pub record Finding : Type 0 where
  pub driver : ℕ
  pub article : ℕ
  pub from : ℤ
  pub to : ℤ
  pub value : ℤ

abbrev pub finding : ℕ → ℕ → ℤ → ℤ → ℤ → Finding
finding driver article from to value = record { driver = driver; article = article; from = from; to = to; value = value }

abbrev pub finding_of : Denial → Finding
finding_of d = finding d.driver d.article (number_of d.from) (number_of d.to) d.value

abbrev pub when : Bool → Finding → List Finding
when true f = f ∷ []
when false f = []

abbrev pub is_in_week : ℤ → Turn → Bool
is_in_week monday t = int_eq (week_of t.day) monday

-- driving of more than nine hours
abbrev pub is_long : Turn → Bool
is_long t = nat_lt 32400 t.driving

abbrev pub is_long_in : ℤ → Turn → Bool
is_long_in monday t = is_long t && is_in_week monday t

-- Article 6(1): at most nine hours of driving, twice in the week at most ten. `earlier` are the driver's earlier duties.
abbrev pub is_past_daily : List Turn → Turn → Bool
is_past_daily earlier t = nat_lt 36000 t.driving || (is_long t && nat_le 2 (length (filter (is_long_in (week_of t.day)) earlier)))

abbrev pub daily_of : List Turn → Turn → List Finding
daily_of earlier t = when (is_past_daily earlier t) (finding t.driver 61 (number_of t.day) (number_of t.day) (pos t.driving))

abbrev pub daily_from : List Turn → List Turn → List Finding
daily_from earlier [] = []
daily_from earlier (t ∷ later) = daily_of earlier t ++ daily_from (earlier ++ t ∷ []) later

-- the driving of a duty where it is in the week
abbrev pub driving_in : ℤ → Turn → ℕ
driving_in monday t = if is_in_week monday t then t.driving else 0

abbrev pub week_sum : ℤ → List Turn → ℕ
week_sum monday duties = sum_by (driving_in monday) duties

abbrev pub has_duty_in : ℤ → List Turn → Bool
has_duty_in monday duties = list_any (is_in_week monday) duties

-- Article 6(2): at most 56 hours of driving in a week.
abbrev pub weekly_at : ℕ → ℤ → List Turn → List Finding
weekly_at driver monday duties =
    when (nat_lt 201600 (week_sum monday duties)) (finding driver 62 monday (monday +ℤ pos 6) (pos (week_sum monday duties)))

abbrev pub two_weeks_sum : ℤ → List Turn → ℕ
two_weeks_sum monday duties = week_sum monday duties + week_sum (monday +ℤ pos 7) duties

-- Article 6(3): at most 90 hours of driving in two consecutive weeks, each with a duty.
abbrev pub fortnight_at : ℕ → ℤ → List Turn → List Finding
fortnight_at driver monday duties =
    when (has_duty_in (monday +ℤ pos 7) duties && nat_lt 324000 (two_weeks_sum monday duties))
    (finding driver 63 monday (monday +ℤ pos 13) (pos (two_weeks_sum monday duties)))

-- a week is looked at once, at the first of its duties
abbrev pub weeks_at : List Turn → List Turn → Turn → List Finding
weeks_at duties earlier t =
    if has_duty_in (week_of t.day) earlier then [] else weekly_at t.driver (week_of t.day) duties
    ++ fortnight_at t.driver (week_of t.day) duties

abbrev pub weeks_from : List Turn → List Turn → List Turn → List Finding
weeks_from duties earlier [] = []
weeks_from duties earlier (t ∷ later) = weeks_at duties earlier t ++ weeks_from duties (earlier ++ t ∷ []) later

-- Article 8(2): a rest of at least nine hours within the 24 hours.
abbrev pub short_of : ℕ → Rest → List Finding
short_of driver r = when (int_lt r.length (pos 32400)) (finding driver 82 (number_of r.day) (number_of r.next) r.length)

-- Article 8(4): at most three reduced daily rests between two weekly rests. `earlier` are the driver's rests before.
abbrev pub is_past_reduced : List Rest → Rest → Bool
is_past_reduced earlier r = is_reduced r && nat_le 3 (reduced_in earlier)

abbrev pub reduced_of : ℕ → List Rest → Rest → List Finding
reduced_of driver earlier r =
    when (is_past_reduced earlier r) (finding driver 84 (number_of r.day) (number_of r.next) (pos (reduced_in earlier + 1)))

abbrev pub rests_at : ℕ → List Rest → Rest → List Finding
rests_at driver earlier r = short_of driver r ++ reduced_of driver earlier r

abbrev pub rests_from : ℕ → List Rest → List Rest → List Finding
rests_from driver earlier [] = []
rests_from driver earlier (r ∷ later) = rests_at driver earlier r ++ rests_from driver (earlier ++ r ∷ []) later

abbrev pub driver_of : List Turn → ℕ
driver_of [] = 0
driver_of (t ∷ ts) = t.driver

-- all duties are of the driver of the first one
abbrev pub HasOneDriver : List Turn → Type 0
HasOneDriver duties = All (λ (t : Turn). t.driver ≡ driver_of duties) duties

-- all that is denied of one driver's duties in their order
abbrev pub findings_of : List Turn → List Finding
findings_of duties = daily_from [] duties ++ (weeks_from duties [] duties ++ rests_from (driver_of duties) [] (rests_of duties))

-- by driver, article, first day and last day; the value decides nowhere
abbrev pub denial_order : Denial → Denial → Ordering
denial_order a b =
    ordering_then (nat_cmp a.driver b.driver)
    (ordering_then (nat_cmp a.article b.article)
    (ordering_then (nat_cmp a.from b.from)
    (ordering_then (nat_cmp a.to b.to) (int_cmp a.value b.value))))

abbrev pub HasDays : Denial → Type 0
HasDays d = IsDay d.from × IsDay d.to

-- from one list of denials to the next these findings are added behind the others
pub record Adds (old new : List Denial) (added : List Finding) : Type 0 where
  pub findings : map finding_of new ≡ map finding_of old ++ added
  pub days : All HasDays old → All HasDays new

abbrev pub HasRestDays : Rest → Type 0
HasRestDays r = IsDay r.day × IsDay r.next

-- the denials of all drivers, each once, in their order
pub record AreDenials (turns : List Turn) (denials : List Denial) : Type 0 where
  pub ordered : List Turn
  pub same : IsPermutation turns ordered
  pub rising : IsSorted turn_order ordered
  pub whole : flat_map (λ (ts : List Turn). ts) (drivers_lists ordered) ≡ ordered
  pub one : All HasOneDriver (drivers_lists ordered)
  pub are : IsPermutation (flat_map findings_of (drivers_lists ordered)) (map finding_of denials)
  pub days : All HasDays denials
  pub order : IsSorted denial_order denials
