use Rattle.std.proofs.Common.{◌≡◌, drop, map}
use Rattle.std.specs.List.{flat_map}
use Rattle.vdv452_rows.specs.Rows.{first}
use Rattle.plan_params.specs.Faults.{table_faults}
use Rattle.plan_params.specs.Rules.{rule_of}
use Rattle.plan_params.proofs.testing.first_in.Given as goal

-- nothing is wrong so far
abbrev pub invariant-loop-rule : goal.invariant-loop-rule
invariant-loop-rule l = first (flat_map (table_faults l.net l.version) (map rule_of (drop l.rule-index l.rules)))
    ≡ first (flat_map (table_faults l.net l.version) (map rule_of l.rules))
