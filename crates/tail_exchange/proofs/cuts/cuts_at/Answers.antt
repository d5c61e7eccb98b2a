use Rattle.std.proofs.Common.{arith}
use Rattle.tail_exchange.specs.Exchange.{cut_at}
use Rattle.tail_exchange.proofs.Folds.{least-more}
use Rattle.tail_exchange.proofs.cuts.cuts_at.Goals as goal

pub loop-class-preserved : goal.loop-class-preserved
loop-class-preserved g c =
    let p = g.C.Columns.problem c.args.columns.now in
    least-more (λ k. cut_at p c.args.plan.now c.args.a c.args.i k) 0 c.loop-class.class c.loop-class.class c.args.best
    c.loop-class.least _ (omega arith) c.loop-class.invariant c.cut_at-least.ensures
