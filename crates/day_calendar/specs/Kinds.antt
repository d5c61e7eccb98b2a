-- Promise: the version, the day type and the weekday of a day.
use Rattle.std.specs.Prelude.{◌≡◌, ℕ, Some}
use Rattle.vdv452_tables.specs.declared.net.Net.{Net}
use Rattle.vdv452_tables.specs.Calendar.{kind_on, version_on}
use Rattle.day_calendar.specs.declared.day.DayKind.{DayKind}
use Rattle.day_calendar.specs.Days.{HasWeekday, IsCivilDay}

pub record IsKindOf (net : Net) (day : ℕ) (kind : DayKind) : Type 0 where
  pub civil : IsCivilDay day
  pub version : version_on net day ≡ Some kind.version
  pub kind_is : kind_on net kind.version day ≡ Some kind.kind
  pub day_is : kind.day ≡ day
  pub weekday : HasWeekday day kind.weekday
