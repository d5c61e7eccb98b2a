-- Promise: days as YYYYMMDD of the Gregorian calendar, their numbers and their weeks.
use Rattle.std.specs.Prelude.{ℕ, ◌/◌, ◌%◌, ◌≤◌, ℤ, pos, neg_ℤ, ◌-ℤ◌, ◌≤ℤ◌}
use Rattle.jiff_core.specs.Calendar.{days_from_civil, weekday_number, IsDate}
use Rattle.jiff_core.specs.Date.{IsYmd}
use Rattle.jiff_core.specs.declared.civil.date.Date.{Date}

abbrev pub year_of : ℕ → ℕ
year_of day = day / 10000

abbrev pub month_of : ℕ → ℕ
month_of day = day / 100 % 100

abbrev pub day_of_month : ℕ → ℕ
day_of_month day = day % 100

-- the calendar has the day
abbrev pub IsDay : ℕ → Type 0
IsDay day = IsDate (pos (year_of day)) (pos (month_of day)) (pos (day_of_month day))

-- A day on which a duty may be. Its year is from 1 to 9998, so that the Monday and the Sunday of its week and of the week after have
-- years of at most four digits.
pub record IsDutyDay (day : ℕ) : Type 0 where
  pub first : 1 ≤ year_of day
  pub last : year_of day ≤ 9998
  pub civil : IsDay day

-- the number of a day, counted from 0 for 1970-01-01
abbrev pub number_of : ℕ → ℤ
number_of day = days_from_civil (pos (year_of day)) (month_of day) (day_of_month day)

-- a week runs from Monday to Sunday and is named by its Monday's number: article 4(i)
abbrev pub monday_of : ℤ → ℤ
monday_of number = number -ℤ pos (weekday_number number)

abbrev pub week_of : ℕ → ℤ
week_of day = monday_of (number_of day)

abbrev pub IsDateOf : ℕ → Date → Type 0
IsDateOf day date = IsYmd (pos (year_of day)) (pos (month_of day)) (pos (day_of_month day)) date

-- the numbers of the days of the years from 0 to 9999
abbrev pub IsNumber : ℤ → Type 0
IsNumber number = (neg_ℤ (pos 719528) ≤ℤ number) × (number ≤ℤ pos 2932896)

-- among them, with more than a week to spare, the days of the years from 1 to 9998
abbrev pub IsDutyNumber : ℤ → Type 0
IsDutyNumber number = (neg_ℤ (pos 719496) ≤ℤ number) × (number ≤ℤ pos 2932531)
