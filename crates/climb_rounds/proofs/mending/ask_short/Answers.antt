use Rattle.std.proofs.Common.{arith}
use Rattle.climb_rounds.proofs.mending.ask_short.Goals as goal

pub returns : goal.returns
returns g c =
    let few = c.plan_sizes.ensures.items c.args.problem.now c.args.plan.now.columns c.requires in
    let small = c.ask_few.ensures in
    omega arith
