use Rattle.duty_pricing.specs.Behind.{IsLoweredByAll}
use Rattle.duty_pricing.proofs.bounds.lower_by_all.Given as goal

-- the row is lowered by the chain's rows of the numbers that are passed
abbrev pub invariant-loop-number : goal.invariant-loop-number
invariant-loop-number l = IsLoweredByAll l.reach l.chain l.firsts l.item l.number l.initial.row l.row
