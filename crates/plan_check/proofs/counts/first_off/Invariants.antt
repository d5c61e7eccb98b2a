use Rattle.std.proofs.Common.{◌≡◌, ◌<◌, ℕ, false, not, nat_eq}
use Rattle.std.specs.Prelude.{slice_index}
use Rattle.plan_check.proofs.counts.first_off.Given as goal

abbrev pub invariant-loop-place : goal.invariant-loop-place
invariant-loop-place l = (j : ℕ) → j < l.place → not (nat_eq (slice_index l.counts j) 1) ≡ false
