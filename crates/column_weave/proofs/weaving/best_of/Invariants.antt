use Rattle.std.proofs.Common.{◌<◌, ◌≤◌}
use Rattle.column_weave.proofs.weaving.best_of.Given as goal

abbrev pub invariant-loop-item : goal.invariant-loop-item
invariant-loop-item l = record {
  low : l.from ≤ l.best;
  high : l.best < l.to;
}
