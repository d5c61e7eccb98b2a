use Rattle.std.proofs.Common.{◌≡◌, ◌≤◌, ◌*◌, length}
use Rattle.lagrangian_climb.specs.Climbs.{AreNear}
use Rattle.lagrangian_climb.proofs.vectors.turned_heading.Given as goal

abbrev pub invariant-loop-item : goal.invariant-loop-item
invariant-loop-item l = record {
  order : l.item ≤ length l.old;
  len : length l.directions ≡ l.item;
  near : AreNear 1600000 l.directions;
  square : l.sum ≤ 2560000000000 * l.item;
}
