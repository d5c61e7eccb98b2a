use Rattle.std.proofs.Common.{◌≡◌, ◌≤◌, take}
use Rattle.cover_core.specs.Plans.{times, all_classes}
use Rattle.tail_exchange.proofs.exchange.count_of.Given as goal

abbrev pub invariant-loop-column : goal.invariant-loop-column
invariant-loop-column l = record {
  count : l.count ≡ times l.class (all_classes (take l.column-index l.plan));
  few : l.count ≤ l.column-index;
}
