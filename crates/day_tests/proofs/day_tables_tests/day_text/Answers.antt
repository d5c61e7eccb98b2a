use Rattle.std.proofs.Common.{sym, subst}
use Rattle.vdv452_tables.specs.declared.net.Net.{Net}
use Rattle.day_calendar.specs.declared.day.DayKind.{DayKind}
use Rattle.day_model.specs.Building.{IsDayOf}
use Rattle.day_model.specs.Facts.{DayFacts}
use Rattle.day_tests.proofs.day_tables_tests.day_text.Goals as goal

-- a day of a day type is one of its own day type
own_kind : (net : Net) (kind : DayKind) (day : DayFacts) → IsDayOf net kind day → IsDayOf net day.kind day
own_kind net kind day is =
    let P : DayKind → Type 0 = λ k. IsDayOf net k day in
    subst P (sym is.kind_is) is

pub tables_of_day-requires : goal.tables_of_day-requires
tables_of_day-requires c = own_kind c.args.net.now c.in_ok-kind.kind c.in_ok-day.day c.in_ok-day.ensures.day
