use Rattle.std.proofs.Common.{◌≡◌, length}
use Rattle.lagrangian_climb.specs.Climbs.{AreSpans}
use Rattle.plan_dive.proofs.ground.Ground.new.Given as goal

abbrev pub invariant-loop-item : goal.invariant-loop-item
invariant-loop-item g l = record {
  one_each : length l.spans ≡ l.item;
  spans : AreSpans l.spans;
}
