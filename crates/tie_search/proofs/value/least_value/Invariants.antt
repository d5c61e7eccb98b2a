use Rattle.std.specs.List.{All}
use Rattle.tie_search.specs.Reached.{IsReached}
use Rattle.tie_search.proofs.value.least_value.Given as goal

abbrev pub invariant-loop-item : goal.invariant-loop-item
invariant-loop-item g l =
    All (IsReached (g.W.Labels.sound l.labels)) l.kept.items × All (IsReached (g.W.Labels.sound l.labels)) l.made.items
