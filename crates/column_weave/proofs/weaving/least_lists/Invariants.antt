use Rattle.std.proofs.Common.{◌≡◌, length}
use Rattle.column_weave.specs.Sums.{AreSummed}
use Rattle.column_weave.proofs.weaving.least_lists.Given as goal

abbrev pub invariant-loop-item : goal.invariant-loop-item
invariant-loop-item l = record {
  len : length l.least.items ≡ l._item;
  summed : AreSummed l.least.items;
}
