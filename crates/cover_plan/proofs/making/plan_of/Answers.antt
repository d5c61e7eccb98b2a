use Rattle.cover_plan.specs.Endings.{numbers_of}
use Rattle.cover_plan.proofs.Causes.{count_cause, cost_cause}
use Rattle.cover_plan.proofs.making.plan_of.Goals as goal

pub returns-in-Err-clause-cause : goal.returns-in-Err-clause-cause
returns-in-Err-clause-cause g c =
    count_cause (g.P.Columns.problem c.args.counted.now) (g.P.Columns.problem c.args.costed.now) c.requires.counts
    (numbers_of c.args.effort.now) c.in-Err.fault c.in-Err.ensures.cause

pub returns-in-Err-cost_plan-clause-cause : goal.returns-in-Err-cost_plan-clause-cause
returns-in-Err-cost_plan-clause-cause g c =
    cost_cause (g.P.Columns.problem c.args.counted.now) (g.P.Columns.problem c.args.costed.now) c.requires.counts
    (numbers_of c.args.effort.now) c.in-Ok.count c.in-Err-cost_plan.fault c.in-Ok.ensures.counts c.in-Err-cost_plan.ensures.cause
