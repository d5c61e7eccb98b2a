use Rattle.std.proofs.Common.{◌≤◌}
use Rattle.duty_pricing.specs.Bounds.{IsRowLowered}
use Rattle.duty_pricing.proofs.rows.lower_row.Given as goal

-- the places that are passed are lowered
abbrev pub invariant-loop-place : goal.invariant-loop-place
invariant-loop-place l = record {
  from : l.shift ≤ l.place;
  so_far : IsRowLowered l.initial.row l.row l.next l.shift l.place l.price;
}
