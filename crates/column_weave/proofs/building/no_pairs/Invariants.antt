use Rattle.std.proofs.Common.{◌≡◌, ◌≤◌, ◌*◌, length}
use Rattle.column_weave.proofs.building.no_pairs.Given as goal

abbrev pub invariant-loop-pair : goal.invariant-loop-pair
invariant-loop-pair l = record {
  order : l._pair ≤ l.items * l.items;
  len : length l.joined ≡ l._pair;
}
