use Rattle.std.proofs.Common.{◌≡◌, slice_index}
use Rattle.path_cover.specs.Nets.{first_nodes}
use Rattle.path_cover.specs.Walks.{AllFollow, starts}
use Rattle.path_cover.proofs.follow.follow_all.Given as goal

abbrev pub invariant-loop-u : goal.invariant-loop-u
invariant-loop-u l = AllFollow l.n (slice_index l.to) l.lists × (first_nodes l.lists ≡ starts l.n (slice_index l.from) l.u)
