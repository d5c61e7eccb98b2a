use Rattle.std.proofs.Common.{◌*◌, ◌<◌, ◌≤◌, ℕ, slice_index}
use Rattle.path_cover.specs.Searching.{AreLow, IsSeated, IsSized, one_search}
use Rattle.path_cover.proofs.cover.place_all.Given as goal

-- One search a row, none of which takes a place from a row that has one; each lowers potentials by at most one search's fall, so
-- they stay within 64 bits over all rows. It is the successive shortest path method: after each search the matching is tight and
-- has one row more.
abbrev pub invariant-loop-t : goal.invariant-loop-t
invariant-loop-t g l = record {
  seated : IsSeated (g.A.Arcs.net l.arcs) l.falls l.placing;
  sized : IsSized (g.A.Arcs.net l.arcs).nodes l.growth;
  low : AreLow l.falls (l.t * one_search);
  placed : (s : ℕ) → s < l.t → slice_index l.placing.to.items s ≤ (g.A.Arcs.net l.arcs).nodes;
}
