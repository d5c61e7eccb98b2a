use Rattle.std.proofs.Common.{◌≡◌, ◌≤◌}
use Rattle.path_cover.specs.Searching.{IsTreedAs, seen_count}
use Rattle.path_cover.proofs.search.place.Given as goal

-- Each turn of a search that places nothing sees one column more, so the number of columns seen is that of the turns; after as many
-- turns as there are columns all are seen, and such a tree is stuck too. While the root may only take earlier columns potentials do
-- not move.
abbrev pub invariant-loop-turn : goal.invariant-loop-turn
invariant-loop-turn g l = record {
  treed : IsTreedAs (g.A.Arcs.net l.arcs) l.falls l.placing l.growth l.fn.target;
  count : seen_count l.growth.columns.items ≡ l.turn;
  kept : l.placing ≡ l.fn.placing;
  same : l.fn.target.limit ≤ (g.A.Arcs.net l.arcs).nodes → l.falls ≡ l.fn.falls;
}
