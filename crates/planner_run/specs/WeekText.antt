-- Promise: the text of the command `week`, and why there is none.
use Rattle.std.specs.Prelude.{◌≡◌, ◌≢◌, ℕ, ◌⊎◌, List, [], ◌∷◌, Ok}
use Rattle.vdv451_text.specs.declared.table.Table.{Table}
use Rattle.vdv451_text.specs.Plain.{text}
use Rattle.week_check.specs.declared.denial.Denial.{Denial}
use Rattle.week_check.specs.declared.fault.RosterFault.{RosterFault}
use Rattle.week_check.specs.declared.fault.RosterFault.TheVariants as rosters
use Rattle.week_check.specs.declared.turn.Turn.{Turn}
use Rattle.week_check.specs.Denials.{AreDenials}
use Rattle.week_check.specs.Roster.{turns_of}
use Rattle.week_check.specs.RosterAnswers.{IsAnswer, IsFaultOf}
use Rattle.week_check.specs.Verdict.{verdict_table}
use Rattle.planner_run.specs.declared.status.Status.{Status}
use Rattle.planner_run.specs.declared.status.Status.TheVariants as statuses
use Rattle.planner_run.specs.declared.status.InputFault.TheVariants as inputs

-- the text of the table of all that is denied of these duties, each denial once, in their order
pub record IsVerdictText (turns : List Turn) (bytes : List ℕ) : Type 0 where
  pub denials : List Denial
  pub are : AreDenials turns denials
  pub written : bytes ≡ text (verdict_table denials ∷ [])

-- the tables have a roster without a fault, and this is the text of what is denied of its duties
pub record IsWeekText (tables : List Table) (bytes : List ℕ) : Type 0 where
  pub roster : IsAnswer tables (Ok (turns_of tables))
  pub verdict : IsVerdictText (turns_of tables) bytes

-- the status for a roster that is refused
abbrev pub roster_status : RosterFault → Status
roster_status (rosters.Table fault) = statuses.Input (inputs.Table fault)
roster_status (rosters.Days first last) = statuses.Input (inputs.Days first last)
roster_status rosters.Memory = statuses.Memory

-- why there is no text: the first fault of the roster's table, or else days that lie too far apart
pub record IsWeekCause (tables : List Table) (status : Status) : Type 0 where
  pub fault : RosterFault
  pub cause : IsFaultOf tables fault
  pub told : fault ≢ rosters.Memory
  pub is : status ≡ roster_status fault

-- memory ran out, or there is no text
abbrev pub IsWeekRefused : List Table → Status → Type 0
IsWeekRefused tables status = (status ≡ statuses.Memory) ⊎ IsWeekCause tables status
