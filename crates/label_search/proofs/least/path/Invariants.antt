use Rattle.std.proofs.Common.{◌≡◌, ◌≤◌, ◌++◌, [], length, reverse}
use Rattle.label_search.specs.Lists.{list_before, helds_from, list_of_node}
use Rattle.label_search.proofs.least.path.Given as goal

abbrev pub invariant-loop-rank : goal.invariant-loop-rank
invariant-loop-rank g l = record {
  there : l.rank ≤ length l.stock.kept;
  list : list_before (helds_from [] l.stock.kept) l.rank ++ reverse l.list.items ≡ list_of_node l.stock.kept l.place;
}

abbrev pub decreases-loop-rank : goal.decreases-loop-rank
decreases-loop-rank g l = l.rank
