-- Inner: what estimates stand on.
use Rattle.std.specs.Prelude.{◌≡◌, length}
use Rattle.cover_core.specs.Cover.{Problem}
use Rattle.offer_estimate.specs.Scales.{AreCaps, AreWorths}
use Rattle.plan_dive.specs.Grounds.{IsGround}
use Rattle.climb_rounds.specs.declared.setting.Setting.{Setting}

-- caps and least worths in range, one for each class
pub record IsSetting (p : Problem) (setting : Setting) : Type 0 where
  pub ground : IsGround p setting.ground
  pub classes : length setting.caps ≡ length p.caps
  pub caps : AreCaps setting.caps
  pub one_each : length setting.worths ≡ length p.caps
  pub worths : AreWorths setting.worths
