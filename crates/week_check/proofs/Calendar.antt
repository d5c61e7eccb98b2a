-- Days from their numbers, and the range of the numbers.
use Rattle.std.proofs.Common.{rules, ◌≡◌, ℕ, ◌+◌, ◌*◌, ◌≤◌, ℤ, pos, negsuc, neg_ℤ, ◌<ℤ◌, ◌≤ℤ◌, refl, ap, sym, subst, arith, unsigned_abs}
use Rattle.jiff_core.specs.Calendar.{IsCivilDate, IsDate, day_count, days_from_civil}
use Rattle.jiff_core.proofs.CalendarLemmas.{day_count-lt_year, days_from_civil-day_count, days_in_month_bounds}
use Rattle.jiff_core.proofs.MarchLemmas.{day_count-early}
use Rattle.jiff_core.proofs.SignedLemmas.{signed_arith}
use Rattle.week_check.specs.Days.{IsDay, IsDutyDay, IsDutyNumber, day_of_month, month_of, number_of, year_of}

first_of_zero : day_count (pos 0) 1 1 ≡ 3652425
first_of_zero = day_count-early (pos 0) 9999 1 1 refl (omega arith) (omega arith) (omega arith)

february_of_zero : day_count (pos 0) 2 1 ≡ 3652456
february_of_zero = day_count-early (pos 0) 9999 2 1 refl (omega arith) (omega arith) (omega arith)

first_of_last : day_count (pos 9999) 1 1 ≡ 7304485
first_of_last = day_count-early (pos 9999) 19998 1 1 refl (omega arith) (omega arith) (omega arith)

february_is_civil : IsCivilDate (pos 0) 2 1
february_is_civil = search rules

positive : (n : ℕ) → 1 ≤ n → pos 0 <ℤ pos n
positive n h = omega (arith, signed_arith)

below_last : (n : ℕ) → n ≤ 9998 → pos n <ℤ pos 9999
below_last n h = omega (arith, signed_arith)

-- the calendar's words for the parts of a day
pub civil_of : (day : ℕ) → IsDay day → IsCivilDate (pos (year_of day)) (month_of day) (day_of_month day)
civil_of day (year, month, dom) = (
  year,
  (omega (arith, signed_arith, month.0), omega (arith, signed_arith, month.1)),
  (
    omega (arith, signed_arith, dom.0),
    omega (arith, signed_arith, dom.1),
  ),
)

-- Days of the years 1 to 9998 lie behind 1 February of the year 0 and before 1 January 9999, as the calendar counts more days to a
-- later year. So the Monday of a duty's week and the Sunday of the next week are days whose year has at most four digits.
pub duty_number : (day : ℕ) → IsDutyDay day → IsDutyNumber (number_of day)
duty_number day duty =
    let civil = civil_of day duty.civil in
    let low = day_count-lt_year (pos 0) 2 1 (pos (year_of day)) (month_of day) (day_of_month day) february_is_civil
    civil.2.0 (positive _ duty.first) in
    let high = day_count-lt_year (pos (year_of day)) (month_of day) (day_of_month day) (pos 9999) 1 1 civil (omega arith)
    (below_last _ duty.last) in
    let is = days_from_civil-day_count (pos (year_of day)) (month_of day) (day_of_month day) in
    (omega (arith, signed_arith, low, is, february_of_zero), omega (arith, signed_arith, high, is, first_of_last))

-- a date whose number is not before that of the first day of the year 0 has no year before 0
pub not_before : (y : ℤ) (m d : ℕ) → IsCivilDate y m d → neg_ℤ (pos 719528) ≤ℤ days_from_civil y m d → pos 0 ≤ℤ y
not_before (pos n) m d civil low = omega (arith, signed_arith)
not_before (negsuc n) m d civil low =
    let before : negsuc n <ℤ pos 0 = omega (arith, signed_arith) in
    let less = day_count-lt_year (negsuc n) m d (pos 0) 1 1 civil (omega arith) before in
    absurd (omega (arith, signed_arith, less, low, days_from_civil-day_count (negsuc n) m d, first_of_zero))

pub absolute : (y z : ℤ) → z ≡ y → pos 0 ≤ℤ y → y ≡ pos (unsigned_abs z)
absolute (pos n) z e h = rw e refl
absolute (negsuc n) z e h = absurd (omega (arith, signed_arith, h))

year_is : (n m d : ℕ) → m ≤ 12 → d ≤ 31 → year_of (n * 10000 + m * 100 + d) ≡ n
year_is n m d a b = omega arith

month_is : (n m d : ℕ) → m ≤ 12 → d ≤ 31 → month_of (n * 10000 + m * 100 + d) ≡ m
month_is n m d a b = omega arith

dom_is : (n m d : ℕ) → m ≤ 12 → d ≤ 31 → day_of_month (n * 10000 + m * 100 + d) ≡ d
dom_is n m d a b = omega arith

date_of_civil : (n m d : ℕ) → IsCivilDate (pos n) m d → IsDate (pos n) (pos m) (pos d)
date_of_civil n m d civil = (
  civil.0,
  (omega (arith, signed_arith, civil.1.0), omega (arith, signed_arith, civil.1.1)),
  (
    omega (arith, signed_arith, civil.2.0),
    omega (arith, signed_arith, civil.2.1),
  ),
)

-- A date written as YYYYMMDD. Year, month and day are digits of one number: since months have two digits and days too, division gives
-- back each of the three, and with them the number and the day of the calendar.
pub written : (y : ℤ) (n m d : ℕ) → y ≡ pos n → IsCivilDate y m d → (number_of (n * 10000 + m * 100 + d) ≡ days_from_civil y m d)
    × IsDay (n * 10000 + m * 100 + d)
written y n m d e civil =
    let short = days_in_month_bounds y m in
    let few : m ≤ 12 = omega (arith, civil.1.1) in
    let little : d ≤ 31 = omega (arith, civil.2.1, short.0) in
    let year = year_is n m d few little in
    let month = month_is n m d few little in
    let dom = dom_is n m d few little in
    let Number : ℕ → ℕ → ℕ → Type 0 = λ a b c. days_from_civil (pos a) b c ≡ days_from_civil y m d in
    let number : Number n m d = ap (λ z. days_from_civil z m d) (sym e) in
    let number1 : Number n m (day_of_month (n * 10000 + m * 100 + d)) = subst (λ c. Number n m c) (sym dom) number in
    let number2 : Number n (month_of (n * 10000 + m * 100 + d)) (day_of_month (n * 10000 + m * 100 + d)) =
    subst (λ b. Number n b (day_of_month (n * 10000 + m * 100 + d))) (sym month) number1 in
    let number3 : Number (year_of (n * 10000 + m * 100 + d)) (month_of (n * 10000 + m * 100 + d)) (day_of_month (n * 10000 + m * 100 + d)) =
    subst (λ a. Number a (month_of (n * 10000 + m * 100 + d)) (day_of_month (n * 10000 + m * 100 + d))) (sym year) number2 in
    let Civil : ℕ → ℕ → ℕ → Type 0 = λ a b c. IsDate (pos a) (pos b) (pos c) in
    let day : Civil n m d = date_of_civil n m d (subst (λ z. IsCivilDate z m d) e civil) in
    let day1 : Civil n m (day_of_month (n * 10000 + m * 100 + d)) = subst (λ c. Civil n m c) (sym dom) day in
    let day2 : Civil n (month_of (n * 10000 + m * 100 + d)) (day_of_month (n * 10000 + m * 100 + d)) =
    subst (λ b. Civil n b (day_of_month (n * 10000 + m * 100 + d))) (sym month) day1 in
    let day3 : Civil (year_of (n * 10000 + m * 100 + d)) (month_of (n * 10000 + m * 100 + d)) (day_of_month (n * 10000 + m * 100 + d)) =
    subst (λ a. Civil a (month_of (n * 10000 + m * 100 + d)) (day_of_month (n * 10000 + m * 100 + d))) (sym year) day2 in
    (number3, day3)
