use Rattle.std.proofs.Common.{◌≤◌}
use Rattle.cover_core.specs.Plans.{IsPlan}
use Rattle.exchange_tests.specs.Five.{five}
use Rattle.exchange_tests.proofs.tail_exchange_tests.step_by_step.Given as goal

abbrev pub invariant-loop-step : goal.invariant-loop-step
invariant-loop-step g l = record {
  plan : IsPlan (five l.places 0) l.plan.columns;
  few : l.made ≤ l._step;
}
