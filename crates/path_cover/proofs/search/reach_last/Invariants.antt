use Rattle.std.proofs.Common.{◌≡◌, ◌≤◌, ◌<◌, ℕ, true, false, slice_index}
use Rattle.std.specs.Prelude.{slice_index_or}
use Rattle.path_cover.specs.Searching.{IsOpenedAs}
use Rattle.path_cover.proofs.search.reach_last.Given as goal

abbrev pub invariant-loop-t : goal.invariant-loop-t
invariant-loop-t g l = record {
  count : l.n ≡ (g.A.Arcs.net l.arcs).nodes;
  opened : IsOpenedAs (g.A.Arcs.net l.arcs) l.falls l.placing l.growth l.fn.target (g.A.Arcs.net l.arcs).nodes;
  columns : l.growth.columns.items ≡ l.fn.growth.columns.items;
  seen : (t : ℕ) → l.fn.target.fixed ≤ t → t < l.t → slice_index l.placing.to.items t ≡ (g.A.Arcs.net l.arcs).nodes →
      slice_index_or l.growth.rows.items t false ≡ true;
}
