-- Promise: what files hold, the tables that they spell, and their first fault of text.
--
-- Files are read one after another, and the first fault refuses all. So whether a fault of text is the first one is said of the files
-- up to it alone, whatever the names behind it hold or hide: a fault of file n has its cause in what is held under the names 1 to n.
use Rattle.std.specs.Prelude.{◌≡◌, ℕ, ◌+◌, ◌-◌, ◌<◌, ◌≤◌, ◌⊎◌, List, [], ◌∷◌, length, take, Option, Some, IfSome, slice_index_or}
use Rattle.std.specs.Option.{option_map, option_and_then}
use Rattle.plan_core.specs.Outside.{Rose}
use Rattle.vdv451_text.specs.declared.table.Table.{Table}
use Rattle.vdv451_text.specs.declared.fault.TextKind.{TextKind}
use Rattle.vdv451_text.specs.declared.fault.TextKind.TheVariants as kinds
use Rattle.vdv451_text.specs.Faults.{Gives, HasFault}
use Rattle.input_files.specs.declared.fault.FileFault.{FileFault}
use Rattle.input_files.specs.declared.fault.FileFault.TheVariants as faults
use Rattle.input_files.specs.declared.stage.Stage.{Stage}
use Rattle.input_files.specs.declared.transfer.ReadRefusal.{ReadRefusal}
use Rattle.input_files.specs.declared.transfer.ReadRefusal.TheVariants as refusals
use Rattle.input_files.specs.Stages.{room, next_stage}

-- the bytes held under each name, where all of them are told
abbrev pub held_under : (List ℕ → Option (List ℕ)) → List (List ℕ) → Option (List (List ℕ))
held_under held [] = Some []
held_under held (name ∷ names) = option_and_then (λ bytes. option_map (λ more. bytes ∷ more) (held_under held names)) (held name)

-- files, of which the first is of this stage, spell these tables, file by file
abbrev pub SpellTables : Stage → List (List ℕ) → List (List Table) → Type 0
SpellTables stage [] parts = parts ≡ []
SpellTables stage (bytes ∷ files) parts =
    (first : List Table)
    × (others : List (List Table))
    × Gives (room stage) bytes first
    × SpellTables (next_stage stage (length bytes)) files others
    × (parts ≡ first ∷ others)

-- The first fault of text in files of which the first is of this stage and has this number: the file, the line and the kind.
abbrev pub HasTextFault : Stage → ℕ → List (List ℕ) → ℕ → ℕ → TextKind → Type 0
HasTextFault stage number [] file line kind = ⊥
HasTextFault stage number (bytes ∷ files) file line kind =
    ((file ≡ number) × HasFault (room stage) bytes line kind)
    ⊎ ((tables : List Table)
    × Gives (room stage) bytes tables
    × HasTextFault (next_stage stage (length bytes)) (number + 1) files file line kind)

-- the files before this one, as far as they are told, spell tables
abbrev pub SpellBefore : Stage → (List ℕ → Option (List ℕ)) → List (List ℕ) → ℕ → Type 0
SpellBefore stage held names file =
    (count : ℕ) → count < file →
    IfSome (held_under held (take count names)) (λ contents. (parts : List (List Table)) × SpellTables stage contents parts)

-- The count of faults rose under the name of the file with this number, counted from 1, and the texts of the files before it are right.
pub record IsReadFault
    (stage : Stage) (held : List ℕ → Option (List ℕ)) (names : List (List ℕ)) (before now : List ℕ → ℕ) (file : ℕ) : Type 0 where
  pub first : 1 ≤ file
  pub last : file ≤ length names
  pub rose : Rose (before (slice_index_or names (file - 1) [])) (now (slice_index_or names (file - 1) []))
  pub order : SpellBefore stage held names file

-- no count of faults rose under these names
abbrev pub NoneRose : List (List ℕ) → (List ℕ → ℕ) → (List ℕ → ℕ) → Type 0
NoneRose [] before now = Unit {0}
NoneRose (name ∷ names) before now = (¬ Rose (before name) (now name)) × NoneRose names before now

-- memory ran out, or a read failed
abbrev pub IsUnread : FileFault → Type 0
IsUnread faults.Memory = Unit {0}
IsUnread (faults.Read file) = Unit {0}
IsUnread (faults.Text file fault) = ⊥

-- the refusal of a file's text
abbrev pub refused_text : ℕ → ℕ → TextKind → FileFault
refused_text file line kind = faults.Text file (record { line = line; kind = kind })

-- why a file is refused: its text has that first fault, or the count of faults rose; running out of memory needs no cause
abbrev pub IsFileCause : (ℕ → ℕ → TextKind → Type 0) → (ℕ → Type 0) → FileFault → Type 0
IsFileCause text read faults.Memory = Unit {0}
IsFileCause text read (faults.Read file) = read file
IsFileCause text read (faults.Text file fault) = text file fault.line fault.kind

-- the answer for a file with a fault of text
abbrev pub text_fault : ℕ → ℕ → TextKind → FileFault
text_fault file line kinds.Memory = faults.Memory
text_fault file line kinds.Keyword = refused_text file line kinds.Keyword
text_fault file line kinds.Order = refused_text file line kinds.Order
text_fault file line kinds.Field = refused_text file line kinds.Field
text_fault file line kinds.Count = refused_text file line kinds.Count
text_fault file line kinds.EndCount = refused_text file line kinds.EndCount
text_fault file line kinds.EofCount = refused_text file line kinds.EofCount
text_fault file line kinds.Unended = refused_text file line kinds.Unended
text_fault file line kinds.TooLarge = refused_text file line kinds.TooLarge

-- the answer for a file that is not read
abbrev pub read_fault : ℕ → ReadRefusal → FileFault
read_fault file refusals.Fault = faults.Read file
read_fault file refusals.TooLarge = refused_text file 0 kinds.TooLarge
read_fault file refusals.Memory = faults.Memory
