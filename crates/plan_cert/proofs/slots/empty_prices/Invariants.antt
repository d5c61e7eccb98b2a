use Rattle.std.proofs.Common.{◌≡◌}
use Rattle.plan_cert.specs.Slots.{unset}
use Rattle.plan_cert.proofs.slots.empty_prices.Given as goal

abbrev pub invariant-loop : goal.invariant-loop
invariant-loop l = l.slots ≡ unset l.counter
