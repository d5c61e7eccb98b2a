use Rattle.std.proofs.Common.{◌≡◌, ◌++◌, drop}
use Rattle.duty_rest.specs.Heads as spec
use Rattle.duty_rest.proofs.earlier.add_heads_at.Given as goal

-- what is there and what is left are all
abbrev pub invariant-loop-head : goal.invariant-loop-head
invariant-loop-head l = l.heads ++ spec.heads_at (drop l.head-index l.rows) l.first ≡ l.fn.heads ++ spec.heads_at l.rows l.first
