use Rattle.std.proofs.Common.{◌≡◌, drop}
use Rattle.vdv452_rows.specs.Rows.{first}
use Rattle.plan_params.specs.Faults.{row_faults}
use Rattle.plan_params.specs.Rules.{rule_of}
use Rattle.plan_params.proofs.testing.rows_fault.Given as goal

-- nothing is wrong so far
abbrev pub invariant-loop-place : goal.invariant-loop-place
invariant-loop-place l = first (row_faults l.net l.version (rule_of l.rule) l.place (drop l.place l.rows))
    ≡ first (row_faults l.net l.version (rule_of l.rule) 0 l.rows)
