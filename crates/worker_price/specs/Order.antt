-- Inner: the steps by which what was found is put into order.
use Rattle.std.specs.Prelude.{ℕ, ℤ, pos, ◌/◌, ◌%◌, List, Option, Some, None, slice_set, slice_index_or, ◌≡◌, ◌<◌, Contains}
use Rattle.std.specs.Int.{int_min}
use Rattle.plan_core.specs.declared.Price.{Price}
use Rattle.cover_core.specs.declared.Column.{Column}
use Rattle.cover_core.specs.FirstLeast.{value}
use Rattle.cover_core.specs.Best.{within}
use Rattle.worker_price.specs.declared.found.Found.{Found}
use Rattle.worker_price.specs.Work.{Best, limit_of}

-- the least values of the classes, after a column of a class, if there is one
abbrev pub least_after : List Price → List ℤ → ℕ → Option Column → List ℤ
least_after prices least class None = least
least_after prices least class (Some c) = slice_set least class (int_min (value prices c) (slice_index_or least class (pos 0)))

-- a column of a class where it is kept
abbrev pub kept : List Price → List ℤ → ℕ → Option Column → Option Column
kept prices least class column = within (limit_of (slice_index_or least class (pos 0))) prices column

-- the best column of a task where it is kept
abbrev pub kept_at : Best → List Price → ℕ → List ℤ → ℕ → Option Column
kept_at best prices groups least task = kept prices least (task / groups) (best (task / groups) (task % groups))

-- each task below this number was found
abbrev pub IsFoundOfAll : ℕ → List Found → Type 0
IsFoundOfAll tasks found = (task : ℕ) → task < tasks → (f : Found) × Contains found f × (f.task ≡ task)

-- what was found of a task is kept exactly where its best column is
abbrev pub IsKeptAsBest : Best → List Price → ℕ → List ℤ → Found → Type 0
IsKeptAsBest best prices groups least f = kept prices least (f.task / groups) f.column ≡ kept_at best prices groups least f.task

-- what was found is in its slot
abbrev pub IsPlaced : Best → List Price → ℕ → List ℤ → List (Option Column) → Found → Type 0
IsPlaced best prices groups least slots f = slice_index_or slots f.task None ≡ kept_at best prices groups least f.task
