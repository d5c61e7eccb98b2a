use Rattle.std.proofs.Common.{◌≡◌, ◌++◌, drop}
use Rattle.duty_rest.specs.Heads as spec
use Rattle.duty_rest.proofs.earlier.row_heads.Given as goal

-- what is there and what is left are all
abbrev pub invariant-loop-row : goal.invariant-loop-row
invariant-loop-row l = l.heads ++ spec.row_heads l.net l.begun l.moment (drop l.row-index l.rows)
    ≡ spec.row_heads l.net l.begun l.moment l.rows
