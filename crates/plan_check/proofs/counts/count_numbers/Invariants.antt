use Rattle.std.proofs.Common.{◌≡◌, ◌<◌, ◌+◌, ℕ, drop, length}
use Rattle.std.specs.Prelude.{slice_index}
use Rattle.cover_core.specs.Plans.{times}
use Rattle.plan_check.proofs.counts.count_numbers.Given as goal

-- with the numbers that are left, the counts are those that are wanted
abbrev pub invariant-loop-number : goal.invariant-loop-number
invariant-loop-number l = record {
  long : length l.counts ≡ length l.fn.counts;
  left : (n : ℕ) → n < length l.fn.counts →
      slice_index l.counts n + times n (drop l.number-index l.numbers) ≡ slice_index l.fn.counts n + times n l.numbers;
}
