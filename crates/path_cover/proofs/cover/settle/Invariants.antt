use Rattle.std.proofs.Common.{◌≡◌, ◌<◌, ℕ, slice_index}
use Rattle.path_cover.specs.Firsts.{AllPlaced}
use Rattle.path_cover.specs.Searching.{IsSeated, IsSized}
use Rattle.path_cover.proofs.cover.settle.Given as goal

-- The row takes ever earlier columns over tight arcs, while rows before it keep theirs and the matching stays full and tight; that
-- ends, since its column is a number that falls.
abbrev pub invariant-loop-t : goal.invariant-loop-t
invariant-loop-t g l = record {
  seated : IsSeated (g.A.Arcs.net l.arcs) l.falls l.placing;
  sized : IsSized (g.A.Arcs.net l.arcs).nodes l.growth;
  same : l.falls ≡ l.fn.falls;
  placed : AllPlaced (g.A.Arcs.net l.arcs).nodes l.placing;
  before : (s : ℕ) → s < l.fn.t → slice_index l.placing.to.items s ≡ slice_index l.fn.placing.to.items s;
}

-- the row's column comes earlier
abbrev pub decreases-loop-t : goal.decreases-loop-t
decreases-loop-t g l = slice_index l.placing.to.items l.fn.t
