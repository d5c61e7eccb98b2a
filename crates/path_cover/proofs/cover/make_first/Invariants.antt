use Rattle.std.proofs.Common.{◌≡◌, ◌<◌, ℕ}
use Rattle.path_cover.specs.Firsts.{AllPlaced, IsEarliest}
use Rattle.path_cover.specs.Searching.{IsSeated, IsSized}
use Rattle.path_cover.proofs.cover.make_first.Given as goal

-- No least cover that agrees before a row of those settled has an earlier successor there. Settling a further row moves only rows
-- behind it, so what was shown of the earlier ones stays (`earliest_kept`); and potentials are the same throughout, so all rows
-- mean the same least covers. At the end the cover is the first of all by its list of successors.
abbrev pub invariant-loop-t : goal.invariant-loop-t
invariant-loop-t g l = record {
  seated : IsSeated (g.A.Arcs.net l.arcs) l.falls l.placing;
  sized : IsSized (g.A.Arcs.net l.arcs).nodes l.growth;
  same : l.falls ≡ l.fn.falls;
  placed : AllPlaced (g.A.Arcs.net l.arcs).nodes l.placing;
  first : (s : ℕ) → s < l.t → IsEarliest (g.A.Arcs.net l.arcs) l.falls l.placing s;
}
