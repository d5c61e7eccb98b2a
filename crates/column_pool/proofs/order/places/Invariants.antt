use Rattle.std.proofs.Common.{◌≡◌, ◌≤◌, take, length, map}
use Rattle.column_pool.specs.Keys.{place_of}
use Rattle.column_pool.proofs.order.places.Given as goal

abbrev pub invariant-loop-key : goal.invariant-loop-key
invariant-loop-key l = record {
  order : l.key-index ≤ length l.keys;
  places : l.places ≡ map place_of (take l.key-index l.keys);
}
