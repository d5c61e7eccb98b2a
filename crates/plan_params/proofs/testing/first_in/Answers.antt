use Rattle.plan_params.specs.Faults.{table_faults}
use Rattle.plan_params.proofs.FaultLemmas.{rule_first, rule_passed}
use Rattle.plan_params.proofs.testing.first_in.Goals as goal

pub returns-then-is_some : goal.returns-then-is_some
returns-then-is_some c =
    rule_first (table_faults c.args.net.now c.args.version) c.args.rules.now
    c.loop-rule.rule-index _ c.table_fault-found.result _ c.loop-rule-test.true c.table_fault-found.ensures
    c.loop-rule.invariant c.if-is_some.ensures

pub loop-rule-preserved : goal.loop-rule-preserved
loop-rule-preserved c =
    rule_passed (table_faults c.args.net.now c.args.version) c.args.rules.now
    c.loop-rule.rule-index _ c.table_fault-found.result _ c.loop-rule-test.true c.table_fault-found.ensures
    c.loop-rule.invariant c.if-is_some.ensures
