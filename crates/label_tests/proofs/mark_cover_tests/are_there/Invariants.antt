use Rattle.std.proofs.Common.{◌≡◌, ◌<◌, ℕ, length}
use Rattle.std.specs.Prelude.{Some, slice_get}
use Rattle.label_tests.specs.Samples.{Step}
use Rattle.label_tests.proofs.mark_cover_tests.are_there.Given as goal

abbrev pub invariant-loop-place : goal.invariant-loop-place
invariant-loop-place l = (k : ℕ) (a : Step) → k < l.place → slice_get l.marks k ≡ Some a → (a.0 < 2) × (a.1 < length l.rising.prices.items)
