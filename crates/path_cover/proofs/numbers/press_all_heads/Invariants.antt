use Rattle.std.proofs.Common.{◌≡◌, ◌<◌, ◌≤◌, ℕ, false}
use Rattle.path_cover.specs.Sweeps.{IsFitting, IsSwept}
use Rattle.path_cover.proofs.numbers.press_all_heads.Given as goal

abbrev pub invariant-loop-x : goal.invariant-loop-x
invariant-loop-x g l = record {
  swept : IsSwept (g.A.Arcs.net l.arcs) l.placing l.fn.numbers l.numbers l.moved;
  asked : l.moved ≡ false → (y : ℕ) → y < l.x → (v : ℕ) → v ≤ (g.A.Arcs.net l.arcs).nodes → IsFitting (g.A.Arcs.net l.arcs) l.numbers y v;
}
