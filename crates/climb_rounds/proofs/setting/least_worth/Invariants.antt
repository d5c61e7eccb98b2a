use Rattle.std.proofs.Common.{◌≤◌, IfSome}
use Rattle.climb_rounds.proofs.setting.least_worth.Given as goal

abbrev pub invariant-loop-item : goal.invariant-loop-item
invariant-loop-item g l = IfSome l.least (λ worth. worth ≤ 4000000000)
