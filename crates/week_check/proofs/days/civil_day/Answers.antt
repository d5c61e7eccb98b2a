use Rattle.std.proofs.Common.{arith, ◌≡◌, w16, to_z, of_z, unsigned_abs}
use Rattle.std.proofs.lemmas.Int.{ints}
use Rattle.week_check.proofs.Calendar.{absolute, written}
use Rattle.week_check.proofs.days.civil_day.Goals as goal

pub returns-clause-civil : goal.returns-clause-civil
returns-clause-civil c =
    let year = c.args.date.year in
    let e : to_z w16 (of_z w16 year) ≡ year = omega (arith, ints, c.args.date.year_in) in
    let positive = absolute year (to_z w16 (of_z w16 year)) e c.requires in
    let made = written year (unsigned_abs (to_z w16 (of_z w16 year))) c.args.date.month c.args.date.day positive
    (c.args.date.year_in, c.args.date.month_in, c.args.date.day_in) in
    rw (c.from.ensures, c.from-2.ensures) made.1
