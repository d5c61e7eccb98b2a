use Rattle.std.proofs.Common.{arith}
use Rattle.plan_dive.proofs.Readies.{ready_at}
use Rattle.plan_dive.proofs.order.fix_at.Goals as goal

pub can_fix-requires-clause-column : goal.can_fix-requires-clause-column
can_fix-requires-clause-column g c =
    ready_at (g.C.Columns.problem c.args.problem.now) c.args.pool.now c.args.place c.index-pool-place.result c.index-pool-place.result
    (omega arith) c.index-pool-place.is c.requires.ready

pub fix-requires-clause-column : goal.fix-requires-clause-column
fix-requires-clause-column g c =
    ready_at (g.C.Columns.problem c.args.problem.now) c.args.pool.now c.args.place c.index-pool-place.result c.index-pool-place.result
    (omega arith) c.index-pool-place.is c.requires.ready
