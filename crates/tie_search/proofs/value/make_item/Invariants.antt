use Rattle.std.specs.List.{All}
use Rattle.tie_search.specs.Reached.{IsReached}
use Rattle.tie_search.proofs.value.make_item.Given as goal

abbrev pub invariant-loop-level : goal.invariant-loop-level
invariant-loop-level g l = All (IsReached (g.W.Labels.sound l.labels)) l.made.items
