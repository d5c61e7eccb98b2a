use Rattle.std.proofs.Common.{◌≡◌, ◌≤◌, ◌≤ℤ◌, pos, ◌*◌, take, length}
use Rattle.cover_core.specs.Plans.{rent}
use Rattle.dual_bound.proofs.all_rent.Given as goal

abbrev pub invariant-loop-class : goal.invariant-loop-class
invariant-loop-class l = record {
  order : l.class ≤ length l.caps;
  sum : l.sum ≡ rent (take l.class l.caps) l.class_prices;
  low : pos 0 ≤ℤ l.sum;
  high : l.sum ≤ℤ pos (39614081257132168796771975168 * l.class);
}
