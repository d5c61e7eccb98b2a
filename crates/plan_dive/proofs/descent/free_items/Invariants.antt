use Rattle.std.proofs.Common.{◌≤◌}
use Rattle.plan_dive.proofs.descent.free_items.Given as goal

abbrev pub invariant-loop-is_fixed : goal.invariant-loop-is_fixed
invariant-loop-is_fixed l = l.free ≤ l.is_fixed-index
