use Rattle.std.proofs.Common.{◌≡◌, ◌-◌, ◌<◌, ℕ, List, ◌∷◌, slice_index}
use Rattle.path_cover.proofs.Following.{ComesTo}
use Rattle.path_cover.proofs.follow.follow.Given as goal

-- The path so far follows the matching from its start to the last node. The next node is a greater one, or it is the end; so the
-- path ends, and then follows the matching whole.
abbrev pub invariant-loop-last : goal.invariant-loop-last
invariant-loop-last l = (l.last < l.n) × ((rest : List ℕ) × (l.path ≡ l.start ∷ rest) × ComesTo l.n (slice_index l.to) l.start rest l.last)

abbrev pub decreases-loop-last : goal.decreases-loop-last
decreases-loop-last l = l.n - l.last
