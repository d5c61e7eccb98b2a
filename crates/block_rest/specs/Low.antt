-- Inner: open blocks cost little.
use Rattle.std.specs.Prelude.{pos, ◌≤ℤ◌, ◌+ℤ◌, ◌*ℤ◌}
use Rattle.day_model.specs.Facts.{DayFacts}
use Rattle.depot_network.specs.declared.open.OpenBlock.{OpenBlock}
use Rattle.depot_network.specs.Walk.{end_of}

-- an open block without prices has a value of at most the greatest fixed cost and all seconds so far at the highest rate, in thousandths
pub record IsLow (day : DayFacts) (a : OpenBlock) : Type 0 where
  pub least : pos 0 ≤ℤ a.value
  pub most : a.value ≤ℤ (pos 100000000000 +ℤ (pos 10000000 *ℤ end_of day a.trip))
  pub in_time : end_of day a.trip ≤ℤ pos 172800
