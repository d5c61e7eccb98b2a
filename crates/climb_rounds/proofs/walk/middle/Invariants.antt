use Rattle.std.proofs.Common.{◌≡◌, ◌≤◌, length}
use Rattle.cover_core.specs.FirstLeast.{AllWithin}
use Rattle.climb_rounds.proofs.walk.middle.Given as goal

abbrev pub invariant-loop-item : goal.invariant-loop-item
invariant-loop-item g l = record {
  order : l.item ≤ length l.one.items;
  len : length l.items ≡ l.item;
  moderate : AllWithin 10000000000000 l.items;
}
