use Rattle.std.proofs.Common.{◌≤◌, length}
use Rattle.std.specs.List.{All}
use Rattle.tie_search.specs.Reached.{IsReached}
use Rattle.tie_search.proofs.value.extend_all.Given as goal

abbrev pub invariant-loop-place : goal.invariant-loop-place
invariant-loop-place g l = (l.end ≤ length l.kept) × All (IsReached (g.W.Labels.sound l.labels)) l.made.items
