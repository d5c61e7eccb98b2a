-- Promise: the names of the faults of a day.
use Rattle.std.specs.Prelude.{ℕ, List, codes}
use Rattle.day_calendar.specs.declared.day.DayFault.{DayFault}
use Rattle.day_calendar.specs.declared.day.DayFault.TheVariants as faults

abbrev pub name_of : DayFault → List ℕ
name_of faults.NoVersion = codes "NoVersion"
name_of faults.NoDay = codes "NoDay"
name_of faults.NoDate = codes "NoDate"
