-- Promise: the first item that does not stand once, and the first list that is no column, each by itself.
use Rattle.std.specs.Prelude.{ℕ, List, length, Option, Some, None}
use Rattle.cover_core.specs.declared.Column.{Column}
use Rattle.cover_core.specs.Cover.{Problem}
use Rattle.plan_check.specs.declared.firsts.ItemTimes.{ItemTimes}
use Rattle.plan_check.specs.Verdicts.{EachOnce, HaveWorths, IsFirstTimes, IsFirstUnlawful}

-- the first of so many items that does not stand in exactly one list, once, or that each does
abbrev pub IsTimesFound : ℕ → List Column → Option ItemTimes → Type 0
IsTimesFound items lists None = EachOnce items lists
IsTimesFound items lists (Some found) = IsFirstTimes items lists found.item found.count

-- the place of the first list that is no column of its class, or that each is one
abbrev pub IsUnlawfulFound : Problem → List Column → Option ℕ → Type 0
IsUnlawfulFound p lists None = HaveWorths p lists (length lists)
IsUnlawfulFound p lists (Some place) = IsFirstUnlawful p lists place
