use Rattle.std.proofs.Common.{◌≡◌, length}
use Rattle.climb_rounds.proofs.mending.ranks_of.Given as goal

abbrev pub invariant-loop-place : goal.invariant-loop-place
invariant-loop-place g l = length l.ranks.items ≡ l.place
