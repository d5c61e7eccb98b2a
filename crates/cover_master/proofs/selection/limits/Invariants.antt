use Rattle.std.proofs.Common.{◌≡◌, ◌<◌, ◌≤◌, ℕ, length, slice_index}
use Rattle.cover_core.specs.Plans.{number_at}
use Rattle.cover_master.specs.Candidates.{IsLimit}
use Rattle.cover_master.proofs.selection.limits.Given as goal

abbrev pub invariant-loop-class : goal.invariant-loop-class
invariant-loop-class l = record {
  order : l.class ≤ length l.caps;
  len : length l.limits.items ≡ l.class;
  are : (k : ℕ) → k < l.class → IsLimit l.keys k (slice_index l.caps k) (number_at l.limits.items k);
}
