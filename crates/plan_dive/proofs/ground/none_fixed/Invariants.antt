use Rattle.std.proofs.Common.{◌≡◌, length}
use Rattle.plan_dive.proofs.ground.none_fixed.Given as goal

abbrev pub invariant-loop-item : goal.invariant-loop-item
invariant-loop-item l = length l.fixed ≡ l._item
