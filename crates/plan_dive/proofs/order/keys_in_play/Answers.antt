use Rattle.std.proofs.Common.{arith}
use Rattle.plan_dive.proofs.Readies.{ready_at}
use Rattle.plan_dive.proofs.order.keys_in_play.Goals as goal

pub can_fix-requires-clause-column : goal.can_fix-requires-clause-column
can_fix-requires-clause-column g c =
    ready_at (g.C.Columns.problem c.args.problem.now) c.args.pool.now c.loop-place.place c.index-pool-place.result c.index-pool-place.result
    (omega arith) c.index-pool-place.is c.requires.ready

pub value_at-requires-clause-column : goal.value_at-requires-clause-column
value_at-requires-clause-column g c =
    ready_at (g.C.Columns.problem c.args.problem.now) c.args.pool.now c.loop-place.place c.index-pool-place.result c.index-pool-place.result
    (omega arith) c.index-pool-place.is c.requires.ready
