use Rattle.std.proofs.Common.{◌≤◌}
use Rattle.plan_dive.proofs.ground.alone_in_all.Given as goal

abbrev pub invariant-loop-class : goal.invariant-loop-class
invariant-loop-class g l = record {
  least : l.so_far.least ≤ 4000000000;
  greatest : l.so_far.greatest ≤ 4000000000;
}
