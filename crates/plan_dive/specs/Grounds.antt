-- Promise: what a climb over a problem stands on.
use Rattle.std.specs.Prelude.{◌≡◌, ◌≤◌, length}
use Rattle.cover_core.specs.Cover.{Problem}
use Rattle.column_weave.specs.Webs.{IsWeb}
use Rattle.lagrangian_climb.specs.declared.climbing.Rest.{Rest}
use Rattle.lagrangian_climb.specs.Choices.{AreAsked}
use Rattle.lagrangian_climb.specs.Climbs.{AreSpans}
use Rattle.price_rounds.specs.Steps.{IsSized, AreReady}
use Rattle.worker_price.specs.Work.{ArePricesFor}
use Rattle.plan_dive.specs.declared.ground.Ground.{Ground}
use Rattle.plan_dive.specs.declared.stock.Stock.{Stock}
use Rattle.plan_dive.specs.declared.course.Course.{Course}

-- the caps of the problem, and a span for each item
pub record IsGround (p : Problem) (ground : Ground) : Type 0 where
  pub sized : IsSized p
  pub caps : ground.caps ≡ p.caps
  pub spans : AreSpans ground.spans
  pub one_each : length ground.spans ≡ p.items

-- which items are fixed and which places are left, of all items and classes
pub record IsRest (p : Problem) (rest : Rest) : Type 0 where
  pub items : length rest.fixed ≡ p.items
  pub classes : length rest.caps ≡ length p.caps

-- columns and links of the problem
pub record IsStock (p : Problem) (stock : Stock) : Type 0 where
  pub ready : AreReady p stock.pool
  pub web : IsWeb p stock.web

-- a price for each item, and what each class asks
pub record IsCourse (p : Problem) (course : Course) : Type 0 where
  pub prices : ArePricesFor p course.prices.items
  pub classes : length course.asked ≡ length p.caps
  pub asked : AreAsked course.asked
  pub pace : course.pace ≤ 512
