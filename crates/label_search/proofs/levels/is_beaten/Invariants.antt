use Rattle.std.proofs.Common.{◌≡◌, ◌≤◌, drop, length}
use Rattle.std.specs.List.{list_any}
use Rattle.label_search.specs.Nodes.{is_beaten_node}
use Rattle.label_search.proofs.levels.is_beaten.Given as goal

-- none of the nodes that are passed is at least as good
abbrev pub invariant-loop-place : goal.invariant-loop-place
invariant-loop-place g l = record {
  order : l.place ≤ length l.stock.made;
  so_far : list_any (is_beaten_node (g.W.Labels.good l.labels) l.label) l.stock.made
      ≡ list_any (is_beaten_node (g.W.Labels.good l.labels) l.label) (drop l.place l.stock.made);
}
