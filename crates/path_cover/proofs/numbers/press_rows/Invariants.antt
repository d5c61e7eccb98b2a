use Rattle.std.proofs.Common.{◌≡◌, ◌<◌, ℕ, false, slice_index}
use Rattle.path_cover.specs.Sweeps.{IsSwept, IsTaut}
use Rattle.path_cover.proofs.numbers.press_rows.Given as goal

abbrev pub invariant-loop-t : goal.invariant-loop-t
invariant-loop-t g l = record {
  swept : IsSwept (g.A.Arcs.net l.arcs) l.placing l.fn.numbers l.numbers l.moved;
  asked : l.moved ≡ false → (s : ℕ) → s < l.t → IsTaut (g.A.Arcs.net l.arcs) l.numbers s (slice_index l.placing.to.items s);
}
