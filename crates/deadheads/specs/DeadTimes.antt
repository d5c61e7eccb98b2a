-- Promise: how long moves without passengers take.
use Rattle.std.specs.Prelude.{◌≡◌, ℕ, List, Option, Some, if◌then◌else◌}
use Rattle.indexmap.specs.IndexMap.{IndexMap, get}
use Rattle.plan_core.specs.declared.types.Point.{Point}
use Rattle.vdv452_tables.specs.declared.keys.MoveKey.{MoveKey}
use Rattle.vdv452_tables.specs.declared.net.Net.{Net}
use Rattle.vdv452_rows.specs.declared.rows.times.DeadRow.{DeadRow}
use Rattle.vdv452_tables.specs.Keys.{dead_key_of, move_key_eq, point_eq, value_at}
use Rattle.vdv452_tables.specs.LookUps.{dead_time_on}
use Rattle.deadheads.specs.declared.moves.Ends.{Ends}
use Rattle.deadheads.specs.Entries.{ends_eq, time_at}

-- no time from a point to itself, else what is noted
abbrev pub dead_on : List (Ends × ℕ) → Point → Point → Option ℕ
dead_on deads from to = if point_eq from to then Some 0 else time_at deads (record { from = from; to = to })

-- between two points the time is UEB_FAHRZEIT of UEB_FZT, and from a point to itself 0
abbrev pub AreDeadheads : Net → ℕ → ℕ → ℕ → List (Ends × ℕ) → Type 0
AreDeadheads net version area group deads =
    (from to : Point) → dead_on deads from to ≡ (if point_eq from to then Some 0 else dead_time_on net version area group from to)

abbrev pub key_of : ℕ → ℕ → ℕ → Ends → MoveKey
key_of version area group ends = record { version = version; area = area; group = group; from = ends.from; to = ends.to }

-- what rows of UEB_FZT tell of a move in a version, an area and a group
abbrev pub time_in : List DeadRow → ℕ → ℕ → ℕ → Ends → Option ℕ
time_in rows version area group ends = value_at move_key_eq dead_key_of (λ row. row.time) rows (key_of version area group ends)

-- the index gives for all ends what the rows tell
abbrev pub AreTimesOf : {S : Type 0} → List DeadRow → ℕ → ℕ → ℕ → IndexMap Ends ℕ S → Type 0
AreTimesOf rows version area group times = (ends : Ends) → get ends_eq times ends ≡ time_in rows version area group ends

-- the row's time is told at its key, and all else as before
abbrev pub IsNoted : {S : Type 0} → DeadRow → ℕ → ℕ → ℕ → IndexMap Ends ℕ S → IndexMap Ends ℕ S → Type 0
IsNoted row version area group old new =
    (ends : Ends) → get ends_eq new ends
    ≡ (if move_key_eq (dead_key_of row) (key_of version area group ends) then Some row.time else get ends_eq old ends)
