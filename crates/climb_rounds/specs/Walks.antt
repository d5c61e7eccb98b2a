-- Inner: what holds of prices on their way.
use Rattle.std.specs.Prelude.{IfSome}
use Rattle.cover_core.specs.Cover.{Problem}
use Rattle.offer_estimate.specs.Scales.{IsScale}
use Rattle.plan_dive.specs.Grounds.{IsCourse}
use Rattle.price_rounds.specs.Steps.{AreReady, IsOffer}
use Rattle.worker_price.specs.Work.{ArePricesFor}
use Rattle.climb_rounds.specs.declared.offers.Offered.{Offered}
use Rattle.climb_rounds.specs.declared.walk.Walk.{Walk}

-- an offer is kept, the columns are of the problem, and the estimate is at a scale
pub record IsOffered (p : Problem) (offered : Offered) : Type 0 where
  pub kept : IsOffer p offered.kept
  pub columns : AreReady p offered.columns
  pub scale : IsScale offered.estimate.scale

-- all prices are in range, and what is kept is an offer
pub record IsWalk (p : Problem) (walk : Walk) : Type 0 where
  pub course : IsCourse p walk.course
  pub at : ArePricesFor p walk.at.items
  pub centre : ArePricesFor p walk.centre.items
  pub scaled : ArePricesFor p walk.scaled.items
  pub kept : IfSome walk.kept (IsOffer p)
