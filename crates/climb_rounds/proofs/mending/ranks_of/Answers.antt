use Rattle.std.proofs.Common.{arith}
use Rattle.plan_dive.proofs.Readies.{ready_at}
use Rattle.climb_rounds.proofs.mending.ranks_of.Goals as goal

pub value_at-requires-clause-column : goal.value_at-requires-clause-column
value_at-requires-clause-column g c =
    ready_at (g.C.Columns.problem c.args.problem.now) c.args.columns.now c.loop-place.place c.index-columns-place.result
    c.index-columns-place.result (omega arith) c.index-columns-place.is c.requires.columns
