use Rattle.std.proofs.Common.{◌≡◌, ◌≤◌, ◌++◌, length, take}
use Rattle.label_search.specs.Levels.{AllAtLeast}
use Rattle.label_search.specs.Nodes.{values_of}
use Rattle.label_search.proofs.levels.keep_values.Given as goal

-- the values of the nodes that are passed are there, and none of them is below
abbrev pub invariant-loop-place : goal.invariant-loop-place
invariant-loop-place g l =
    let value_at = g.W.Labels.value_at l.labels in
    record {
      order : l.place ≤ length l.stock.made;
      values : l.values.items ≡ l.fn.values.items ++ values_of value_at (take l.place l.stock.made);
      least : AllAtLeast value_at l.least (take l.place l.stock.made);
    }
