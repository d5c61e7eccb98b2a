use Rattle.plan_dive.proofs.Readies.{ready_at}
use Rattle.plan_dive.proofs.descent.begin.Goals as goal

pub fix-requires-clause-column : goal.fix-requires-clause-column
fix-requires-clause-column g c =
    ready_at (g.C.Columns.problem c.args.problem.now) c.args.stay.now c.loop-column.column-index c.column-item.result c.column-item.result
    c.loop-column-test.true c.column-item.is c.requires.stay
