use Rattle.one_pool_flow.specs.DayNets.{IsLaidRow}
use Rattle.one_pool_flow.proofs.table.row.Given as goal

abbrev pub invariant-loop-v : goal.invariant-loop-v
invariant-loop-v l = IsLaidRow l.day l.pool l.n l.x l.v l.cells
