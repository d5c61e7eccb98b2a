-- Promise: a day as its rules see it.
use Rattle.std.specs.Prelude.{ℕ, Bool, List, Option}
use Rattle.plan_core.specs.declared.types.Point.{Point}
use Rattle.day_calendar.specs.declared.day.DayKind.{DayKind}
use Rattle.trip_times.specs.declared.trip.Trip.{Trip}
use Rattle.deadheads.specs.declared.moves.Ends.{Ends}
use Rattle.deadheads.specs.DeadTimes.{dead_on}
use Rattle.plan_params.specs.declared.rows.ParamRows.{ParamRows}
use Rattle.plan_params.specs.LookUps.{admits_in, is_relief_in}

-- a day: its day type, its trips in the order of their numbers with the places of their rows in REC_FRT, the settings, and the times of
-- deadheads
pub record DayFacts : Type 0 where
  pub kind : DayKind
  pub rows : List ℕ
  pub trips : List Trip
  pub params : ParamRows
  pub deads : List (Ends × ℕ)

-- how long the deadhead from a point to another takes, if there is one
abbrev pub dead : DayFacts → Point → Point → Option ℕ
dead day from to = dead_on day.deads from to

-- whether vehicles of a type may serve a line
abbrev pub admits : DayFacts → ℕ → ℕ → Bool
admits day line typ = admits_in day.params line typ

-- whether drivers are relieved at a point
abbrev pub is_relief : DayFacts → Point → Bool
is_relief day at = is_relief_in day.params at
