-- Promise: what kind each status is of. Whatever is said of a status by its kind, here and in `Run`, is said by `status_kind` alone.
use Rattle.std.specs.Prelude.{ℕ, Bool, true, false}
use Rattle.planner_run.specs.declared.status.Status.{Status}
use Rattle.planner_run.specs.declared.status.Status.TheVariants as statuses

-- A text was written whole; the files hold what is refused; their day has no plan; the read of a file failed; memory ran out; or the words
-- or a write were wrong, of which no file tells.
pub data StatusKind : Type 0 where
  Done : StatusKind
  Refused : StatusKind
  Unplanned : StatusKind
  Unread : ℕ → StatusKind
  OutOfMemory : StatusKind
  Elsewhere : StatusKind

abbrev pub status_kind : Status → StatusKind
status_kind statuses.Ok = Done
status_kind (statuses.CheckNo reason) = Done
status_kind (statuses.NoPlan side bound places) = Unplanned
status_kind (statuses.NotPlaced side item name partial) = Unplanned
status_kind (statuses.ReadFault file) = Unread file
status_kind statuses.Memory = OutOfMemory
status_kind statuses.Usage = Elsewhere
status_kind statuses.WriteFault = Elsewhere
status_kind _ = Refused

abbrev pub is_done_kind : StatusKind → Bool
is_done_kind Done = true
is_done_kind _ = false

abbrev pub is_unplanned_kind : StatusKind → Bool
is_unplanned_kind Unplanned = true
is_unplanned_kind _ = false

-- What is the cause of a status of this kind: a refusal by what the files hold or by planning, a failed read of a file, or running out of
-- memory. A status of another kind has none.
abbrev pub HasCause : Type 0 → (ℕ → Type 0) → Type 0 → StatusKind → Type 0
HasCause refusal read_fault memory Refused = refusal
HasCause refusal read_fault memory Unplanned = refusal
HasCause refusal read_fault memory (Unread file) = read_fault file
HasCause refusal read_fault memory OutOfMemory = memory
HasCause refusal read_fault memory _ = ⊥

-- whether a command ends so after it has written its text
abbrev pub is_done : Status → Bool
is_done status = is_done_kind (status_kind status)
