use Rattle.std.proofs.Common.{arith}
use Rattle.plan_dive.proofs.Readies.{ready_at}
use Rattle.climb_rounds.proofs.mending.staying_columns.Goals as goal

pub keep_one-requires-clause-column : goal.keep_one-requires-clause-column
keep_one-requires-clause-column g c =
    ready_at (g.C.Columns.problem c.args.problem.now) c.args.columns.now c.loop-place.place c.index-columns-place.result
    c.index-columns-place.result (omega arith) c.index-columns-place.is c.requires.columns
