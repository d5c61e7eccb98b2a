-- Promise: how much work a plan is given.
use Rattle.std.specs.Prelude.{◌<◌, ◌≤◌}
use Rattle.price_rounds.specs.declared.effort.Effort.{Effort}

-- 1 to 64 workers, 1 to 200 price rounds, 1 to 50 lowering rounds and at most 1,000 exchange steps
pub record IsEffort (effort : Effort) : Type 0 where
  pub some_workers : 0 < effort.workers
  pub few_workers : effort.workers ≤ 64
  pub some_rounds : 0 < effort.rounds
  pub few_rounds : effort.rounds ≤ 200
  pub some_lower : 0 < effort.lower
  pub few_lower : effort.lower ≤ 50
  pub few_exchange : effort.exchange ≤ 1000
