use Rattle.std.proofs.Common.{◌≡◌, ◌<◌, ℕ, false}
use Rattle.path_cover.specs.Sweeps.{IsFitting, IsSwept}
use Rattle.path_cover.proofs.numbers.press_heads.Given as goal

abbrev pub invariant-loop-v : goal.invariant-loop-v
invariant-loop-v g l = record {
  swept : IsSwept (g.A.Arcs.net l.arcs) l.placing l.fn.numbers l.numbers l.moved;
  asked : l.moved ≡ false → (w : ℕ) → w < l.v → IsFitting (g.A.Arcs.net l.arcs) l.numbers l.x w;
}
