use Rattle.std.proofs.Common.{◌≡◌, length}
use Rattle.offer_estimate.specs.Scales.{AreWorths}
use Rattle.climb_rounds.proofs.setting.least_worths.Given as goal

abbrev pub invariant-loop-class : goal.invariant-loop-class
invariant-loop-class g l = record {
  len : length l.worths ≡ l.class;
  worths : AreWorths l.worths;
}
