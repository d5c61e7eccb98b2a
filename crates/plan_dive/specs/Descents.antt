-- Promise: what a dive keeps, and what it leaves.
use Rattle.std.specs.Prelude.{Option, Some, None}
use Rattle.cover_core.specs.Cover.{Problem}
use Rattle.cover_core.specs.declared.Plan.{Plan}
use Rattle.cover_core.specs.FirstLeast.{AreCheap}
use Rattle.cover_core.specs.Plans.{IsPlan}
use Rattle.plan_round.specs.Laws.{HasRoomForEach}
use Rattle.price_rounds.specs.Steps.{AreReady}
use Rattle.plan_dive.specs.declared.descent.Descent.{Descent}
use Rattle.plan_dive.specs.Grounds.{IsRest}

-- columns of the problem are fixed
pub record IsDescent (p : Problem) (descent : Descent) : Type 0 where
  pub rest : IsRest p descent.rest
  pub fixed : AreReady p descent.fixed

-- a plan; or none, where not each item has room of its own
abbrev pub IsDived : Problem → Option Plan → Type 0
IsDived p (Some plan) = IsPlan p plan.columns × AreCheap plan.columns
IsDived p None = ¬ HasRoomForEach p
