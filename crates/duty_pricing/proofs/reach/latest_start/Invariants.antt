use Rattle.std.proofs.Common.{◌≡◌, ◌<◌, ◌≤◌, ◌≤ℤ◌, ℕ, neg_ℤ, pos, Some}
use Rattle.cover_core.specs.declared.marks.Mark.{Mark}
use Rattle.duty_network.specs.Marks.{first_mark}
use Rattle.duty_pricing.proofs.reach.latest_start.Given as goal

-- no list of one of the pieces so far signs on later
abbrev pub invariant-loop-item : goal.invariant-loop-item
invariant-loop-item l = record {
  low : neg_ℤ (pos 345600) ≤ℤ l.latest;
  high : l.latest ≤ℤ pos 345600;
  so_far : (item : ℕ) (m : Mark) → item < l.item → l.first ≤ item → item < l.end → first_mark l.net l.prices l.class l.crew item ≡ Some m →
      m.start.0 ≤ℤ l.latest;
}
