use Rattle.std.proofs.Common.{◌≡◌, ◌<◌, ℕ, false, slice_index}
use Rattle.path_cover.specs.Sweeps.{IsSwept, IsTaut}
use Rattle.path_cover.proofs.numbers.press_starts.Given as goal

abbrev pub invariant-loop-u : goal.invariant-loop-u
invariant-loop-u g l = record {
  swept : IsSwept (g.A.Arcs.net l.arcs) l.placing l.fn.numbers l.numbers l.moved;
  asked : l.moved ≡ false → (w : ℕ) → w < l.u → slice_index l.placing.from.items w ≡ (g.A.Arcs.net l.arcs).nodes →
      IsTaut (g.A.Arcs.net l.arcs) l.numbers (g.A.Arcs.net l.arcs).nodes w;
}
