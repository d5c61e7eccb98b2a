use Rattle.std.proofs.Common.{◌≡◌, length}
use Rattle.climb_rounds.proofs.mending.stay_marks.Given as goal

abbrev pub invariant-loop-rank : goal.invariant-loop-rank
invariant-loop-rank l = length l.stays ≡ l._rank

abbrev pub invariant-loop-rank-2 : goal.invariant-loop-rank-2
invariant-loop-rank-2 l = length l.stays ≡ length l.ranks
