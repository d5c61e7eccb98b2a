use Rattle.one_pool_flow.proofs.Laid.{more_rows}
use Rattle.one_pool_flow.proofs.table.rows.Goals as goal

pub loop-x-preserved : goal.loop-x-preserved
loop-x-preserved c = more_rows c.args.day.now c.args.pool.now c.args.n c.loop-x.x c.loop-x.all c.push.new.self c.in_ok-row.field-0
    c.loop-x.invariant c.in_ok-row.ensures c.in_ok-push.ensures.ok
