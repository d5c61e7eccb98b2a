use Rattle.std.proofs.Common.{◌≡◌, ◌++◌, ◌-◌}
use Rattle.duty_rest.specs.Heads as spec
use Rattle.duty_rest.proofs.earlier.by_first.Given as goal

-- what is there and what is left are all
abbrev pub invariant-loop-first : goal.invariant-loop-first
invariant-loop-first l = l.heads ++ spec.by_first l.rows (l.count - l.first) l.first ≡ spec.by_first l.rows l.count 0
