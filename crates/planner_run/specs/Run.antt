-- Promise: what the top call answers, from the words, from what the files hold and from the counts of faults.
use Rattle.std.specs.Prelude.{◌≡◌, ℕ, Bool, ◌&&◌, ◌⊎◌, List, ◌++◌, take, Option, Some, IfSome}
use Rattle.plan_core.specs.Outside.{Rose}
use Rattle.vdv451_text.specs.declared.table.Table.{Table}
use Rattle.input_files.specs.declared.fault.FileFault.{FileFault}
use Rattle.input_files.specs.declared.fault.FileFault.TheVariants as files
use Rattle.input_files.specs.declared.stage.Stage.{Stage}
use Rattle.input_files.specs.Inputs.{HasTextFault, SpellTables, held_under}
use Rattle.input_files.specs.Taken.{TakesFront}
use Rattle.command_words.specs.declared.request.Request.{Request}
use Rattle.planner_run.specs.declared.status.Status.{Status}
use Rattle.planner_run.specs.declared.status.Status.TheVariants as statuses
use Rattle.planner_run.specs.declared.status.InputFault.TheVariants as inputs
use Rattle.planner_run.specs.Answering.{answering}
use Rattle.planner_run.specs.Endings.{HasCause, is_unplanned_kind, status_kind}
use Rattle.planner_run.specs.Tasks.{Task}

-- The words for what each command answers (`answering`). What the first file is: a planning file, and how many others may come after it.
abbrev pub stage_of : Task → Stage
stage_of task = (answering task).stage

-- so many files were read: planning files, for a check a plan and a certificate, and an earlier plan where a day is planned anew
abbrev pub HasParts : Task → ℕ → Type 0
HasParts task files = (answering task).has_parts files

-- the planning tables of all files, from those of each file
abbrev pub tables_in : Task → List (List Table) → List Table
tables_in task parts = (answering task).tables parts

-- the text that a command writes of the planning tables, for a day
abbrev pub IsText : Task → List Table → ℕ → List ℕ → Type 0
IsText task tables day bytes = (answering task).text tables day bytes

-- the text of a command from the tables of each file, and the status that it ends with
abbrev pub IsWhole : Task → List (List Table) → ℕ → Status → List ℕ → Type 0
IsWhole task parts day ending bytes = (answering task).whole parts day ending bytes

-- whether a plan is found by climbing
abbrev pub climbs : Task → Bool
climbs task = (answering task).climbs

-- whether a plan and a certificate are checked
abbrev pub checks : Task → Bool
checks task = (answering task).checks

-- a check may end with a no, and every other command that ends well with Ok
abbrev pub IsEndingOf : Task → Status → Type 0
IsEndingOf task status = (answering task).ends status

-- why a command refuses the planning tables, for a day
abbrev pub IsCause : Task → List Table → ℕ → Status → Type 0
IsCause task tables day status = (answering task).cause tables day status

-- memory ran out, or the command refuses the tables for the day
abbrev pub IsRefused : Task → List Table → ℕ → Status → Type 0
IsRefused task tables day status = (status ≡ statuses.Memory) ⊎ IsCause task tables day status

-- why a command refuses the tables of each file, for a day
abbrev pub IsPartsCause : Task → List (List Table) → ℕ → Status → Type 0
IsPartsCause task parts day status = (answering task).parts_cause parts day status

-- memory ran out, or the command refuses the tables of each file for the day
abbrev pub ArePartsRefused : Task → List (List Table) → ℕ → Status → Type 0
ArePartsRefused task parts day status = (status ≡ statuses.Memory) ⊎ IsPartsCause task parts day status

-- the bytes are the command's text, from the tables that the files spell, and it ends with this status
pub record IsAnswer (task : Task) (contents : List (List ℕ)) (day : ℕ) (ending : Status) (bytes : List ℕ) : Type 0 where
  pub parts : List (List Table)
  pub spelled : SpellTables (stage_of task) contents parts
  pub written : IsWhole task parts day ending bytes

-- the files spell tables that are refused for the day with this status
pub record IsTablesRefusal (task : Task) (contents : List (List ℕ)) (day : ℕ) (status : Status) : Type 0 where
  pub parts : List (List Table)
  pub spelled : SpellTables (stage_of task) contents parts
  pub cause : IsPartsCause task parts day status

-- what refuses a command, where the files hold these contents: the first fault of their texts, or else a cause in their tables
abbrev pub IsRefusal : Task → List (List ℕ) → ℕ → Status → Type 0
IsRefusal task contents day (statuses.Input (inputs.Text file fault)) = HasTextFault (stage_of task) 1 contents file fault.line fault.kind
IsRefusal task contents day status = HasCause (IsTablesRefusal task contents day status) (λ file. ⊥) ⊥ (status_kind status)

-- why there is no text: a refusal, or a count of faults that rose; running out of memory needs no cause
abbrev pub IsAnswerCause : (Status → Type 0) → (ℕ → Type 0) → Status → Type 0
IsAnswerCause refusal read_fault status = HasCause (refusal status) read_fault (Unit {0}) (status_kind status)

-- the whole text was added to what was taken before
pub record TakesAnswer (task : Task) (contents : List (List ℕ)) (day : ℕ) (ending : Status) (taken : Option (List ℕ))
    (old : List ℕ) : Type 0 where
  pub bytes : List ℕ
  pub answer : IsAnswer task contents day ending bytes
  pub whole : taken ≡ Some (old ++ bytes)

-- an initial part of the text was added
pub record TakesFrontOfAnswer (task : Task) (contents : List (List ℕ)) (day : ℕ) (taken : Option (List ℕ)) (old : List ℕ) : Type 0 where
  pub ending : Status
  pub bytes : List ℕ
  pub answer : IsAnswer task contents day ending bytes
  pub front : TakesFront old taken bytes

-- a text is written whole, and then the status is the one meant; or an initial part of it, and then the count of faults rose
abbrev pub IsWritten : Option (List ℕ) → Option (List ℕ) → ℕ → ℕ → List ℕ → Status → Status → Type 0
IsWritten old new faults_before faults_now text ending status =
    ((status ≡ ending) × IfSome old (λ bytes. new ≡ Some (bytes ++ text))) ⊎
    ((status ≡ statuses.WriteFault) × IfSome old (λ bytes. TakesFront bytes new text) × Rose faults_before faults_now)

-- what the files named by a request hold, where all of them tell it
abbrev pub told : (List ℕ → Option (List ℕ)) → Request → Option (List (List ℕ))
told held request = held_under held request.names

-- the names of the files that a refusal speaks of: those up to the one whose text has the fault, or all
abbrev pub names_for : List (List ℕ) → Status → List (List ℕ)
names_for names (statuses.Input (inputs.Text file fault)) = take file names
names_for names _ = names

-- what these files hold, where all of them tell it
abbrev pub told_for : (List ℕ → Option (List ℕ)) → List (List ℕ) → Status → Option (List (List ℕ))
told_for held names status = held_under held (names_for names status)

-- whether a refusal is one of planning itself, and not of what the files hold
abbrev pub is_of_planning : Status → Bool
is_of_planning status = is_unplanned_kind (status_kind status)

-- Whether the definitions leave open if it is this refusal that comes. What climbing promises may be met by several plans and bounds.
abbrev pub is_open : Task → Status → Bool
is_open task status = is_of_planning status && climbs task

-- memory ran out, or a read failed
abbrev pub IsUnread : Status → Type 0
IsUnread status = HasCause ⊥ (λ file. Unit {0}) (Unit {0}) (status_kind status)

-- the status for a file that is refused
abbrev pub file_status : FileFault → Status
file_status (files.Text file fault) = statuses.Input (inputs.Text file fault)
file_status (files.Read file) = statuses.ReadFault file
file_status files.Memory = statuses.Memory
