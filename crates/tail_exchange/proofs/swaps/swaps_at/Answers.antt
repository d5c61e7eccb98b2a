use Rattle.std.proofs.Common.{arith}
use Rattle.tail_exchange.specs.Exchange.{swap_at}
use Rattle.tail_exchange.proofs.Folds.{least-more}
use Rattle.tail_exchange.proofs.swaps.swaps_at.Goals as goal

pub loop-j-preserved : goal.loop-j-preserved
loop-j-preserved g c =
    let p = g.C.Columns.problem c.args.columns.now in
    least-more (λ j. swap_at p c.args.plan.now c.args.a c.args.b c.args.i j) 0 c.loop-j.j c.loop-j.j c.args.best
    c.loop-j.least _ (omega arith) c.loop-j.invariant c.swap_at-least.ensures
