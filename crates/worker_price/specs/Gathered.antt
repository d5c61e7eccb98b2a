-- Promise: what the workers gather together.
use Rattle.std.specs.Prelude.{◌≡◌, ℕ, ℤ, pos, ◌*◌, ◌/◌, ◌<◌, ◌==◌, cond, List, [], ◌∷◌, map, length, Result, IfOk}
use Rattle.std.specs.List.{AllZip}
use Rattle.std.specs.Int.{int_min}
use Rattle.plan_core.specs.declared.Price.{Price}
use Rattle.plan_core.specs.declared.Memory.{Memory}
use Rattle.cover_core.specs.Cover.{Problem}
use Rattle.cover_core.specs.Best.{best_of}
use Rattle.task_board.specs.declared.sheet.Sheet.{Sheet}
use Rattle.task_board.specs.Sheets.{whole, times, once_below, HasAll}
use Rattle.task_board.specs.declared.desk.Board.{Board}
use Rattle.task_board.specs.declared.desk.Desk.{Desk}
use Rattle.task_board.specs.Desks.{sheet_of, IsDeskOf}
use Rattle.worker_price.specs.declared.found.Found.{Found}
use Rattle.worker_price.specs.declared.found.Served.{Served}
use Rattle.worker_price.specs.Priced.{groups_of, least_of}
use Rattle.worker_price.specs.Work.{Best, lowerings, FoundUnder, task_of, AreSoundFor}

-- the desk did just these tasks
pub record Gathered (best : Best) (prices : List Price) (groups : ℕ) (v : Sheet) (found : List Found) : Type 0 where
  pub drawn : v.drawn ≡ map task_of found
  pub looks : AllZip (FoundUnder best prices groups) found v.looks
  pub lowered : v.lowered ≡ lowerings prices groups found

-- what a worker with one part hands back: its desk, which claimed until none was left, and what it found
pub record IsDone (board : Board) (p : Problem) (prices : List Price) (s : Served) : Type 0 where
  pub of_board : IsDeskOf board s.desk
  pub share : (sheet_of s.desk).share ≡ 1
  pub ended : 0 < (sheet_of s.desk).over
  pub gathered : Gathered (best_of p prices) prices (groups_of p.items) (sheet_of s.desk) s.found.items
  pub sound : AreSoundFor p prices s.found.items

abbrev pub IfDone : Board → Problem → List Price → Result Served Memory → Type 0
IfDone board p prices r = IfOk r (IsDone board p prices)

-- what several workers hand back together
pub record IsJoined (board : Board) (p : Problem) (prices : List Price) (s : Served) : Type 0 where
  pub of_board : IsDeskOf board s.desk
  pub gathered : Gathered (best_of p prices) prices (groups_of p.items) (sheet_of s.desk) s.found.items
  pub sound : AreSoundFor p prices s.found.items

-- the desk with the whole share drew each task once, and what was found is what it did
pub record IsComplete (board : Board) (p : Problem) (prices : List Price) (s : Served) : Type 0 where
  pub joined : IsJoined board p prices s
  pub share : (sheet_of s.desk).share ≡ whole
  pub ended : 0 < (sheet_of s.desk).over
  pub all : HasAll (sheet_of s.desk)

-- the least of 0 and the values by which a class was lowered
abbrev pub least_lowered : List (ℕ × ℤ) → ℕ → ℤ
least_lowered [] class = pos 0
least_lowered (e ∷ es) class = cond (e.0 == class) (int_min e.1 (least_lowered es class)) (least_lowered es class)

-- a look at the task's class
abbrev pub IsLookFor : ℕ → ℕ → ℕ × ℤ → Type 0
IsLookFor groups task look = look.0 ≡ task / groups

-- the desk of a whole pricing step: each task was drawn once, each has one look at its class,
-- and the values by which a class was lowered have its least value as their least
pub record HasPricedAll (board : Board) (p : Problem) (prices : List Price) (desk : Desk) : Type 0 where
  pub of_board : IsDeskOf board desk
  pub share : (sheet_of desk).share ≡ whole
  pub ended : 0 < (sheet_of desk).over
  pub drawn : (task : ℕ) → times task (sheet_of desk).drawn ≡ once_below task (length p.caps * groups_of p.items)
  pub looks : AllZip (IsLookFor (groups_of p.items)) (sheet_of desk).drawn (sheet_of desk).looks
  pub lowered : (class : ℕ) → class < length p.caps → least_lowered (sheet_of desk).lowered class ≡ least_of p prices class
