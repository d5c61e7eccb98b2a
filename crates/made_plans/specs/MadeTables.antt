-- Promise: the tables of a made day have no fault, and they tell a day.
use Rattle.std.specs.Prelude.{◌≡◌, ℕ, None, Some}
use Rattle.vdv452_tables.specs.declared.reading.Needs.TheVariants as needs
use Rattle.vdv452_tables.specs.Calendar.{kind_on, schemas_of, version_on}
use Rattle.vdv452_rows.specs.Rows.{first_fault}
use Rattle.day_calendar.specs.declared.day.DayKind.{DayKind}
use Rattle.day_calendar.specs.Days.{IsCivilDay}
use Rattle.day_calendar.specs.Kinds.{IsKindOf}
use Rattle.day_model.specs.declared.fault.DayModelFault.{DayModelFault}
use Rattle.day_model.specs.Building.{HasDayFault}
use Rattle.day_maker.specs.Made.{made_tables}
use Rattle.made_plans.specs.MadeRows.{made_net}

-- the tables that are made from a seed have no fault
abbrev pub AreFaultless : ℕ → ℕ → Type 0
AreFaultless seed trips = first_fault (schemas_of needs.All) (made_tables seed trips) ≡ None

-- no reason stands against a day of the network
abbrev pub HasNoDayFault : ℕ → ℕ → Type 0
HasNoDayFault seed trips =
    (day : ℕ) (kind : DayKind) (fault : DayModelFault) → IsKindOf (made_net seed trips) day kind →
    HasDayFault (made_net seed trips) kind fault → ⊥

-- a day of the calendar has a version, and in it a day type
pub record HasKind (seed trips day : ℕ) : Type 0 where
  pub civil : IsCivilDay day
  pub version : version_on (made_net seed trips) day ≡ Some 1
  pub kind_is : kind_on (made_net seed trips) 1 day ≡ Some 1
