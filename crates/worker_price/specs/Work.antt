-- Promise: what a worker does at a board.
use Rattle.std.specs.Prelude.{◌≡◌, ℕ, ℤ, pos, negsuc, ◌+◌, ◌*◌, ◌/◌, ◌%◌, ◌<◌, ◌≤◌, ◌⊎◌, List, [], ◌∷◌, ◌++◌, map, max, length, Option, Some, None, IfSome, All}
use Rattle.std.specs.List.{AllZip}
use Rattle.std.specs.Int.{int_min}
use Rattle.plan_core.specs.Limits.{most_price, most_worth}
use Rattle.plan_core.specs.declared.Price.{Price}
use Rattle.cover_core.specs.declared.Column.{Column}
use Rattle.cover_core.specs.Cover.{Problem, Rises, AllBelow}
use Rattle.cover_core.specs.FirstLeast.{value, AllWithin}
use Rattle.cover_core.specs.Best.{best_of, within}
use Rattle.task_board.specs.declared.sheet.Sheet.{Sheet}
use Rattle.task_board.specs.Sheets.{sheet, extent, drew, looked}
use Rattle.task_board.specs.declared.desk.Board.{Board}
use Rattle.task_board.specs.declared.desk.Desk.{Desk}
use Rattle.task_board.specs.Desks.{sheet_of, extent_of, IsDeskOf}
use Rattle.worker_price.specs.declared.found.Found.{Found}
use Rattle.worker_price.specs.Priced.{groups_of}

-- the board has a task for each class and group, and the classes of the problem
abbrev pub IsBoardFor : Problem → Board → Type 0
IsBoardFor p board = extent_of board ≡ extent (length p.caps * groups_of p.items) (length p.caps)

-- there is a price for each item, each from -10,000,000,000,000 to 10,000,000,000,000
abbrev pub ArePricesFor : Problem → List Price → Type 0
ArePricesFor p prices = (length prices ≡ p.items) × AllWithin most_price prices

-- half, rounded down
abbrev pub half : ℤ → ℤ
half (pos n) = pos (n / 2)
half (negsuc n) = negsuc (n / 2)

-- the limit under which a task is priced after this value was seen: the smaller of -1 and half of it
abbrev pub limit_of : ℤ → ℤ
limit_of seen = int_min (negsuc 0) (half seen)

-- the best columns, by class and group
abbrev pub Best : Type 0
Best = ℕ → ℕ → Option Column

-- the entries by which a column of a class lowers
abbrev pub lowering : List Price → ℕ → Option Column → List (ℕ × ℤ)
lowering prices class None = []
lowering prices class (Some c) = (class, value prices c) ∷ []

-- the entries by which columns that were found lower. Task class * groups + group is of this class and group
abbrev pub lowerings : List Price → ℕ → List Found → List (ℕ × ℤ)
lowerings prices groups [] = []
lowerings prices groups (f ∷ fs) = lowering prices (f.task / groups) f.column ++ lowerings prices groups fs

-- a desk that lowered by these entries
abbrev pub lowered_by_all : Sheet → List (ℕ × ℤ) → Sheet
lowered_by_all v entries = record v { lowered = v.lowered ++ entries }

-- a desk that looked at a class and then lowered by these entries
abbrev pub priced : Sheet → ℕ × ℤ → List (ℕ × ℤ) → Sheet
priced v look entries = record v { looks = v.looks ++ look ∷ []; lowered = v.lowered ++ entries }

-- the task's class was looked at, and its column is the best one within the limit of that look
abbrev pub FoundUnder : Best → List Price → ℕ → Found → ℕ × ℤ → Type 0
FoundUnder best prices groups f look =
    (look.0 ≡ f.task / groups) × (f.column ≡ within (limit_of look.1) prices (best (f.task / groups) (f.task % groups)))

abbrev pub task_of : Found → ℕ
task_of f = f.task

-- the desk claimed the tasks found in this order, looked once for each, and lowered by each column
pub record HasWorked (best : Best) (prices : List Price) (groups : ℕ) (before after : Sheet) (found : List Found) : Type 0 where
  pub tasks : after.tasks ≡ before.tasks
  pub share : after.share ≡ before.share
  pub drawn : after.drawn ≡ before.drawn ++ map task_of found
  pub looks : (looks : List (ℕ × ℤ)) × (after.looks ≡ before.looks ++ looks) × AllZip (FoundUnder best prices groups) found looks
  pub lowered : after.lowered ≡ before.lowered ++ lowerings prices groups found

-- the same, for the pricer's first leasts
abbrev pub HasPriced : Problem → List Price → Sheet → Sheet → List Found → Type 0
HasPriced p prices = HasWorked (best_of p prices) prices (groups_of p.items)

-- the desk did some tasks, and of one more at most the claim and the look
abbrev pub HasStopped : Best → List Price → ℕ → Sheet → Sheet → Type 0
HasStopped best prices groups before after =
    (found : List Found) × (HasWorked best prices groups before after found
    ⊎ ((mid : Sheet) × (task : ℕ) × (seen : ℤ) × HasWorked best prices groups before mid found
    × (after ≡ looked (drew mid task) (task / groups) seen)))

-- the same, for the pricer's first leasts
abbrev pub HasStoppedPricing : Problem → List Price → Sheet → Sheet → Type 0
HasStoppedPricing p prices = HasStopped (best_of p prices) prices (groups_of p.items)

-- a column of the class, whose list rises and has items that have prices, worth at most 4,000,000,000
pub record IsSound (prices : List Price) (class : ℕ) (c : Column) : Type 0 where
  pub of_class : c.class ≡ class
  pub rises : Rises c.items
  pub items : AllBelow (length prices) c.items
  pub cheap : c.worth ≤ most_worth

-- what was found is a task of so many classes and groups, with such a column of its class if there is one
pub record IsSoundFound (prices : List Price) (classes groups : ℕ) (f : Found) : Type 0 where
  pub task : f.task < classes * groups
  pub column : IfSome f.column (IsSound prices (f.task / groups))

-- the same, for the classes and groups of a problem
abbrev pub AreSoundFor : Problem → List Price → List Found → Type 0
AreSoundFor p prices found = All (IsSoundFound prices (length p.caps) (groups_of p.items)) found

-- the least number above all of these
abbrev pub above : List ℕ → ℕ
above [] = 0
above (x ∷ xs) = max (x + 1) (above xs)

-- the sheet of a desk that has done nothing
abbrev pub idle : ℕ → ℕ → Sheet
idle tasks share = sheet tasks share 0 [] [] []

-- a desk of the board with one part, which has done nothing
abbrev pub IsHelper : Board → Desk → Type 0
IsHelper board desk = IsDeskOf board desk × (sheet_of desk ≡ idle (extent_of board).tasks 1)
