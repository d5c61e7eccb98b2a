-- Promise: the ranges of the settings.
use Rattle.std.specs.Prelude.{◌≤◌, All, AllPairs, length}
use Rattle.plan_core.specs.Limits.{most_places, most_rate, most_fixed_cost}
use Rattle.vdv452_tables.specs.Ranges.{IsTime}
use Rattle.plan_params.specs.declared.rows.ParamRows.{ParamRows}
use Rattle.plan_params.specs.declared.rows.group.Group.{Group}
use Rattle.plan_params.specs.declared.rows.pool.Pool.{Pool}
use Rattle.plan_params.specs.declared.rows.settings.Settings.{Settings}
use Rattle.plan_params.specs.declared.rows.way.Way.{Way}

pub record AreSettings (settings : Settings) : Type 0 where
  pub turn : IsTime settings.turn
  pub max_wait : IsTime settings.max_wait
  pub handover : IsTime settings.handover

pub record IsPool (pool : Pool) : Type 0 where
  pub cap : pool.cap ≤ most_places
  pub fixed : pool.fixed ≤ most_fixed_cost
  pub dead_rate : pool.dead_rate ≤ most_rate
  pub stand_rate : pool.stand_rate ≤ most_rate

pub record IsGroup (group : Group) : Type 0 where
  pub cap : group.cap ≤ most_places
  pub fixed : group.fixed ≤ most_fixed_cost
  pub rate : group.rate ≤ most_rate
  pub sign_on : IsTime group.sign_on
  pub sign_off : IsTime group.sign_off

-- what holds of all settings
pub record HaveRanges (params : ParamRows) : Type 0 where
  pub settings : AreSettings params.settings
  pub few_pools : length params.pools ≤ 32
  pub few_groups : length params.groups ≤ 32
  pub pools : All IsPool params.pools
  pub groups : All IsGroup params.groups
  pub ways : All (λ (way : Way). IsTime way.time) params.ways
  pub pools_rise : AllPairs (λ (earlier later : Pool). earlier.number ≤ later.number) params.pools
  pub groups_rise : AllPairs (λ (earlier later : Group). earlier.number ≤ later.number) params.groups
