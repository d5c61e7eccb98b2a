use Rattle.std.proofs.Common.{◌≡◌, ◌<◌, ℕ, length}
use Rattle.std.specs.Prelude.{Some, slice_get}
use Rattle.cover_core.specs.declared.marks.Mark.{Mark}
use Rattle.certificate_tests.proofs.label_cover_tests.are_there.Given as goal

abbrev pub invariant-loop-place : goal.invariant-loop-place
invariant-loop-place l = (k : ℕ) (a : Mark) → k < l.place → slice_get l.marks k ≡ Some a →
    (a.class < length l.net.params.groups) × (a.piece < length l.net.pieces)
