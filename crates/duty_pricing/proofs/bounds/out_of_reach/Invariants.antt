use Rattle.duty_pricing.specs.Bounds.{AreOut}
use Rattle.duty_pricing.proofs.bounds.out_of_reach.Given as goal

-- so many rows are out of reach
abbrev pub invariant-loop : goal.invariant-loop
invariant-loop l = AreOut l.counter l.rows.items
