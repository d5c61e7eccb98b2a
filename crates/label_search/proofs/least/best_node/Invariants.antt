use Rattle.std.proofs.Common.{◌≡◌, ◌≤◌, length, take, None}
use Rattle.label_search.specs.Nodes.{best_from}
use Rattle.label_search.proofs.least.best_node.Given as goal

-- the best of the nodes that are passed
abbrev pub invariant-loop-place : goal.invariant-loop-place
invariant-loop-place g l = record {
  order : l.place ≤ length l.stock.kept;
  best : l.best ≡ best_from (g.W.Labels.close_of l.labels) 0 None (take l.place l.stock.kept);
}
