-- Promise: the plans of a rest, written out, are the plans that keep what has begun.
use Rattle.std.specs.Prelude.{◌≡◌, ◌≢◌, ◌<◌, ◌≤◌, ℕ, Bool, List, [], length}
use Rattle.cover_core.specs.declared.Column.{Column}
use Rattle.cover_core.specs.Cover.{Problem, AllBelow}
use Rattle.cover_core.specs.Plans.{IsPlan, cost, times}
use Rattle.cover_rest.specs.declared.begun.Begun.{Begun}
use Rattle.cover_rest.specs.Rest.{bodies, body_at, joined, rest_of, written_plan}
use Rattle.cover_rest.specs.Keeping.{AreHeads, KeepsBegun}

-- a plan of the rest, written out, is a plan that keeps the heads, with as many columns and the same cost
pub record IsKeptPlan (p : Problem) (heads : List Begun) (may : ℕ → List ℕ → Bool) (rest columns : List Column) : Type 0 where
  pub plan : IsPlan p columns
  pub keeps : KeepsBegun heads may columns
  pub number : length columns ≡ length rest
  pub cost : cost columns ≡ cost rest

abbrev pub IsRestKept : Problem → Type 0
IsRestKept p =
    (heads : List Begun) (may : ℕ → List ℕ → Bool) → AreHeads p heads → (rest : List Column) → IsPlan (rest_of p heads may) rest →
    IsKeptPlan p heads may rest (written_plan (bodies heads p.items) rest)

-- each plan that keeps the heads is a plan of the rest, written out
abbrev pub IsKeptRest : Problem → Type 0
IsKeptRest p =
    (heads : List Begun) (may : ℕ → List ℕ → Bool) → AreHeads p heads →
    (columns : List Column) → IsPlan p columns → KeepsBegun heads may columns →
    (rest : List Column) × IsPlan (rest_of p heads may) rest × (written_plan (bodies heads p.items) rest ≡ columns)

-- What the items of a rest stand for is not nothing, and each item stands there once, and no other; so the rest has no more items.
pub record StandForAll (items : ℕ) (bs : List (List ℕ)) : Type 0 where
  pub below : AllBelow items (joined bs)
  pub some : (x : ℕ) → x < length bs → body_at bs x ≢ []
  pub once : (item : ℕ) → item < items → times item (joined bs) ≡ 1
  pub few : length bs ≤ items
