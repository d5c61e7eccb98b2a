-- Inner: what a search keeps.
use Rattle.std.specs.Prelude.{◌≡◌, ℕ, Bool, true, false}
use Rattle.cover_core.specs.Cover.{Problem}
use Rattle.cover_core.specs.FirstLeast.{AreCheap}
use Rattle.cover_core.specs.Plans.{IsPlan, cost}
use Rattle.plan_round.specs.Laws.{HasRoomForEach, IsStuck}
use Rattle.plan_round.specs.declared.fault.RoundFault.{RoundFault}
use Rattle.plan_round.specs.declared.fault.RoundFault.TheVariants.{NotPlaced, Memory}
use Rattle.plan_dive.specs.Grounds.{IsStock}
use Rattle.climb_rounds.specs.declared.best.Best.{Best}
use Rattle.climb_rounds.specs.declared.best.Best.TheVariants as bests
use Rattle.climb_rounds.specs.declared.best.Search.{Search}

-- a plan, or an item without a place where not each item has room of its own
abbrev pub IsBest : Problem → Best → Type 0
IsBest p (bests.Found plan) = IsPlan p plan.columns × AreCheap plan.columns
IsBest p (bests.Left item partial) = IsStuck p item partial.columns × (¬ HasRoomForEach p)

-- rounding leaves an item that has no place beside the columns so far, and not each item has room of its own
abbrev pub IsLeft : Problem → RoundFault → Type 0
IsLeft p (NotPlaced item partial) = IsStuck p item partial.columns × (¬ HasRoomForEach p)
IsLeft p Memory = Unit {0}

-- whether there is a plan
abbrev pub is_found : Best → Bool
is_found (bests.Found plan) = true
is_found (bests.Left item partial) = false

-- a plan costs so much
abbrev pub CostsAs : ℕ → Best → Type 0
CostsAs amount (bests.Found plan) = amount ≡ cost plan.columns
CostsAs amount (bests.Left item partial) = Unit {0}

-- columns of the problem, and a plan of it with its cost, or what rounding left
pub record IsSearch (p : Problem) (search : Search) : Type 0 where
  pub stock : IsStock p search.stock
  pub best : IsBest p search.best
  pub amount : CostsAs search.cost search.best
