use Rattle.duty_pricing.specs.Bounds.{IsRaised}
use Rattle.duty_pricing.proofs.rows.raise.Given as goal

-- the places that are passed are raised
abbrev pub invariant-loop-place : goal.invariant-loop-place
invariant-loop-place l = IsRaised l.initial.row l.row l.by l.place
