use Rattle.one_pool_flow.proofs.Laid.{more_cells}
use Rattle.one_pool_flow.proofs.table.row.Goals as goal

pub loop-v-preserved : goal.loop-v-preserved
loop-v-preserved c = more_cells c.args.day.now c.args.pool.now c.args.n c.args.x c.loop-v.v c.loop-v.cells c.push.new.self c.arc_cost.result
    c.loop-v.invariant c.arc_cost.ensures.value c.arc_cost.ensures.dear c.in_ok-push.ensures.ok
