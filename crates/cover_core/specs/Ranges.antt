-- Promise: ranges that hold throughout a problem.
use Rattle.std.specs.Prelude.{ℕ, ◌<◌, ◌≤◌, List, length, All, IfSome}
use Rattle.plan_core.specs.Limits.{most_worth, most_places}
use Rattle.cover_core.specs.Cover.{Problem}

-- a plan may have at most 10,000 columns of each class
abbrev pub HasFewPlaces : Problem → Type 0
HasFewPlaces p = All (λ cap. cap ≤ most_places) p.caps

-- no list is worth more than 4,000,000,000 as a column of one of the problem's classes
abbrev pub HasModestWorths : Problem → Type 0
HasModestWorths p = (class : ℕ) (list : List ℕ) → class < length p.caps → IfSome (p.worth class list) (λ worth. worth ≤ most_worth)
