use Rattle.std.proofs.Common.{◌≤◌}
use Rattle.lagrangian_climb.specs.Choices.{AreZeroNumbers}
use Rattle.lagrangian_climb.proofs.choosing.zero_numbers.Given as goal

abbrev pub invariant-loop-place : goal.invariant-loop-place
invariant-loop-place l = record {
  order : l._place ≤ l.len;
  none : AreZeroNumbers l._place l.numbers;
}
