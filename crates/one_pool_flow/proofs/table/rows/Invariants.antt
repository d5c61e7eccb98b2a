use Rattle.one_pool_flow.specs.DayNets.{IsLaid}
use Rattle.one_pool_flow.proofs.table.rows.Given as goal

abbrev pub invariant-loop-x : goal.invariant-loop-x
invariant-loop-x l = IsLaid l.day l.pool l.n l.x l.all
