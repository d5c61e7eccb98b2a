use Rattle.std.proofs.Common.{◌≡◌, length}
use Rattle.plan_dive.proofs.descent.fix_items.Given as goal

abbrev pub invariant-loop-item : goal.invariant-loop-item
invariant-loop-item l = length l.fixed ≡ length l.initial.fixed
