use Rattle.std.proofs.Common.{arith}
use Rattle.climb_rounds.proofs.best.cost_of.Goals as goal

pub plan_cost-requires-clause-few : goal.plan_cost-requires-clause-few
plan_cost-requires-clause-few g c =
    let few = c.plan_sizes.ensures.items c.args.problem.now c.args.plan.now.columns c.requires.plan in
    let small = c.ask_few.ensures in
    omega arith
