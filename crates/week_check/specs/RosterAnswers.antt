-- Promise: what an answer says of the roster's table.
use Rattle.std.specs.Prelude.{◌≡◌, List, [], Some, Result, Ok, Err}
use Rattle.vdv451_text.specs.declared.table.Table.{Table}
use Rattle.vdv452_rows.specs.declared.fault.TableFault.{TableFault}
use Rattle.vdv452_rows.specs.Rows.{first}
use Rattle.week_check.specs.declared.fault.RosterFault.{RosterFault}
use Rattle.week_check.specs.declared.fault.RosterFault.TheVariants.{Table as Wrong, Days, Memory}
use Rattle.week_check.specs.declared.turn.Turn.{Turn}
use Rattle.week_check.specs.Duties.{IsRoster}
use Rattle.week_check.specs.Roster.{AreFar, roster_faults, turns_of}

-- a step gives up for running out of memory, or at the first of these faults
abbrev pub IsFirstOf : List TableFault → RosterFault → Type 0
IsFirstOf faults (Wrong fault) = first faults ≡ Some fault
IsFirstOf faults (Days first_day last_day) = ⊥
IsFirstOf faults Memory = Unit {0}

-- the first fault of the table; else days that lie too far apart; or running out of memory
abbrev pub IsFaultOf : List Table → RosterFault → Type 0
IsFaultOf tables (Wrong fault) = first (roster_faults tables) ≡ Some fault
IsFaultOf tables (Days first_day last_day) = (roster_faults tables ≡ []) × AreFar (turns_of tables) first_day last_day
IsFaultOf tables Memory = Unit {0}

-- the last day of the duties is 14 or more days after the first
abbrev pub AreFarDays : List Turn → RosterFault → Type 0
AreFarDays turns (Wrong fault) = ⊥
AreFarDays turns (Days first_day last_day) = AreFar turns first_day last_day
AreFarDays turns Memory = ⊥

-- the roster where nothing is wrong, or why there is none
abbrev pub IsAnswer : List Table → Result (List Turn) RosterFault → Type 0
IsAnswer tables (Ok turns) = (roster_faults tables ≡ []) × (turns ≡ turns_of tables) × IsRoster turns
IsAnswer tables (Err fault) = IsFaultOf tables fault
