use Rattle.std.proofs.Common.{◌≡◌, ℕ, ◌≤◌, length}
use Rattle.std.specs.Prelude.{slice_index}
use Rattle.lagrangian_climb.proofs.covers.covers.Given as goal

abbrev pub invariant-loop-place : goal.invariant-loop-place
invariant-loop-place l = record {
  order : l.place-index ≤ length l.places;
  len : length l.cover ≡ l.items;
  few : (i : ℕ) → slice_index l.cover i ≤ l.place-index;
}
