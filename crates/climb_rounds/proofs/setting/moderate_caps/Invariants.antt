use Rattle.std.proofs.Common.{◌≡◌, length}
use Rattle.offer_estimate.specs.Scales.{AreCaps}
use Rattle.climb_rounds.proofs.setting.moderate_caps.Given as goal

abbrev pub invariant-loop-class : goal.invariant-loop-class
invariant-loop-class g l = record {
  len : length l.caps ≡ l.class;
  caps : AreCaps l.caps;
}
