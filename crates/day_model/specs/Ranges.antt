-- Promise: the numbers of a day are in their ranges.
use Rattle.std.specs.Prelude.{pos, ◌≤◌, ◌≤ℤ◌, ◌≡◌, All, length}
use Rattle.plan_core.specs.Limits.{most_items}
use Rattle.trip_times.specs.declared.trip.Trip.{Trip}
use Rattle.plan_params.specs.Limits.{HaveRanges}
use Rattle.vdv452_tables.specs.Ranges.{IsTime}
use Rattle.day_model.specs.declared.link.Link.{Link}
use Rattle.day_model.specs.declared.link.Link.TheVariants.{Direct, Depot}
use Rattle.day_model.specs.Facts.{DayFacts}

-- a trip begins not before midnight and ends not before it begins, within two days
pub record IsDaily (t : Trip) : Type 0 where
  pub begins : pos 0 ≤ℤ t.begin.0
  pub order : t.begin.0 ≤ℤ t.end.0
  pub ends : t.end.0 ≤ℤ pos 172800

-- the trips are few and daily, there is a row for each, and the settings are in their ranges
pub record AreInRange (day : DayFacts) : Type 0 where
  pub rows : length day.rows ≡ length day.trips
  pub few : length day.trips ≤ most_items
  pub daily : All IsDaily day.trips
  pub params : HaveRanges day.params

-- the times of a connection
abbrev pub IsShort : Link → Type 0
IsShort (Direct move stand) = IsTime move × IsTime stand
IsShort (Depot inward outward stand) = IsTime inward × IsTime outward × IsTime stand
