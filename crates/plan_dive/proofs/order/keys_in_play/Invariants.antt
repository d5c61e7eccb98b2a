use Rattle.std.proofs.Common.{◌≤◌, length}
use Rattle.plan_dive.proofs.order.keys_in_play.Given as goal

abbrev pub invariant-loop-place : goal.invariant-loop-place
invariant-loop-place g l = length l.keys.items ≤ l.place
