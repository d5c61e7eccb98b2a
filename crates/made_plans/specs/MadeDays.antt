-- Promise: the day of the tables that are made from a seed.
use Rattle.std.specs.Prelude.{ℕ}
use Rattle.day_calendar.specs.Kinds.{IsKindOf}
use Rattle.day_model.specs.Building.{IsDayOf}
use Rattle.day_model.specs.Facts.{DayFacts}
use Rattle.made_plans.specs.MadeRows.{made_net}

-- the day of a day type in the network of the tables that are made from a seed, with so many trips
pub record IsMadeDay (seed trips day : ℕ) (facts : DayFacts) : Type 0 where
  pub kind_is : IsKindOf (made_net seed trips) day facts.kind
  pub day_is : IsDayOf (made_net seed trips) facts.kind facts
