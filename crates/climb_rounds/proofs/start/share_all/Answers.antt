use Rattle.plan_dive.proofs.Readies.{ready_at}
use Rattle.climb_rounds.proofs.start.share_all.Goals as goal

pub share_one-requires-clause-column : goal.share_one-requires-clause-column
share_one-requires-clause-column g c =
    ready_at (g.C.Columns.problem c.args.problem.now) c.args.columns.now c.loop-column.column-index c.column-item.result
    c.column-item.result c.loop-column-test.true c.column-item.is c.requires.columns
