use Rattle.std.proofs.Common.{◌≤◌}
use Rattle.duty_pricing.specs.Bounds.{IsSettled}
use Rattle.duty_pricing.proofs.rows.settle.Given as goal

-- the row falls so far
abbrev pub invariant-loop-place : goal.invariant-loop-place
invariant-loop-place l = record {
  from : 1 ≤ l.place;
  so_far : IsSettled l.initial.row l.row l.place;
}
