use Rattle.std.proofs.Common.{◌≡◌, ℕ, ◌<◌, nat_lt, false}
use Rattle.std.specs.Prelude.{slice_index}
use Rattle.plan_check.proofs.check.first_over.Given as goal

abbrev pub invariant-loop-class : goal.invariant-loop-class
invariant-loop-class g l =
    (j : ℕ) → j < l.class → nat_lt (slice_index (g.C.Columns.problem l.columns).caps j) (slice_index l.counts j) ≡ false
