use Rattle.std.proofs.Common.{◌≡◌, ◌≤◌, ◌++◌, drop, length, take}
use Rattle.std.specs.Prelude.{filter}
use Rattle.label_search.specs.Nodes.{stays_beside}
use Rattle.label_search.proofs.levels.take_out.Given as goal

-- the nodes from this place on are tested
abbrev pub invariant-loop-place : goal.invariant-loop-place
invariant-loop-place g l = record {
  within : l.place ≤ length l.fn.stock.made;
  kept : l.stock.kept ≡ l.fn.stock.kept;
  made : l.stock.made ≡ take l.place l.fn.stock.made
      ++ filter (stays_beside (g.W.Labels.good l.labels) (g.W.Labels.value_at l.labels) l.label) (drop l.place l.fn.stock.made);
}

abbrev pub decreases-loop-place : goal.decreases-loop-place
decreases-loop-place g l = l.place
