use Rattle.std.proofs.Common.{arith}
use Rattle.umlauf_write.proofs.BoundRows.{cost_small}
use Rattle.umlauf_write.proofs.bounds.small_cost.Goals as goal

pub returns-clause-small : goal.returns-clause-small
returns-clause-small c = omega (arith, cost_small c.args.plan.now.columns c.requires.cheap)
