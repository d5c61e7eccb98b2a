use Rattle.std.proofs.Common.{arith, ◌≤ℤ◌, neg_ℤ, pos}
use Rattle.std.proofs.lemmas.Int.{ints}
use Rattle.jiff_core.specs.Date.{epoch_day}
use Rattle.week_check.proofs.Calendar.{not_before}
use Rattle.week_check.proofs.days.day_of.Goals as goal

pub civil_day-requires : goal.civil_day-requires
civil_day-requires c =
    let date = c.from_days_since_min.result in
    let low : neg_ℤ (pos 719528) ≤ℤ epoch_day date = omega (arith, ints, c.from_days_since_min.ensures, c.requires.0, c.requires.1) in
    not_before date.year date.month date.day (date.year_in, date.month_in, date.day_in) low
