use Rattle.std.proofs.Common.{◌≡◌, ◌<◌, ◌+◌, ℕ, drop, length}
use Rattle.std.specs.Prelude.{slice_index}
use Rattle.cover_core.specs.Plans.{all_items, times}
use Rattle.plan_check.proofs.counts.count_items.Given as goal

-- with the lists that are left, the counts are those that are wanted
abbrev pub invariant-loop-list : goal.invariant-loop-list
invariant-loop-list l = record {
  long : length l.counts ≡ length l.fn.counts;
  left : (n : ℕ) → n < length l.fn.counts → slice_index l.counts n + times n (all_items (drop l.list-index l.lists))
      ≡ slice_index l.fn.counts n + times n (all_items l.lists);
}
