-- Promise: two days that are alike have the same texts and the same causes for a refusal.
use Rattle.std.specs.Prelude.{◌≡◌, ℕ, List}
use Rattle.plan_core.specs.declared.types.Point.{Point}
use Rattle.vdv451_text.specs.declared.table.Table.{Table}
use Rattle.day_model.specs.Facts.{DayFacts, dead}
use Rattle.plan_command.specs.declared.fault.PlanFault.{PlanFault}
use Rattle.plan_command.specs.Planning.{Asked, IsPlanCauseOver}
use Rattle.plan_command.specs.PlanText.{IsPlanTextOver}
use Rattle.plan_command.specs.ShortText.{IsShortTextOver}

-- Two days have the same version and day type, the same trips and settings, and the same times of deadheads. The lists that tell the
-- deadheads may differ, as may the dates and the places of the trips' rows.
pub record AreAlike (one other : DayFacts) : Type 0 where
  pub versions : one.kind.version ≡ other.kind.version
  pub kinds : one.kind.kind ≡ other.kind.kind
  pub trips : one.trips ≡ other.trips
  pub params : one.params ≡ other.params
  pub deads : (from to : Point) → dead one from to ≡ dead other from to

-- a text of the one day is one of the other
abbrev pub HaveSameTexts : DayFacts → DayFacts → Type 0
HaveSameTexts one other = (asked : Asked) (table : Table) (bytes : List ℕ) → IsPlanTextOver one asked table bytes →
    IsPlanTextOver other asked table bytes

-- a short text of the one day is one of the other
abbrev pub HaveSameShortTexts : DayFacts → DayFacts → Type 0
HaveSameShortTexts one other = (asked : Asked) (bytes : List ℕ) → IsShortTextOver one asked bytes → IsShortTextOver other asked bytes

-- a cause for a refusal of the one day is one of the other
abbrev pub HaveSameCauses : DayFacts → DayFacts → Type 0
HaveSameCauses one other = (asked : Asked) (fault : PlanFault) → IsPlanCauseOver one asked fault → IsPlanCauseOver other asked fault
