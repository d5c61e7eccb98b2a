use Rattle.std.proofs.Common.{length, arith}
use Rattle.std.specs.Prelude.{flat_map}
use Rattle.std.specs.List.{range_with_len}
use Rattle.tail_exchange.specs.Exchange.{cut_at}
use Rattle.tail_exchange.proofs.Folds.{least-more}
use Rattle.tail_exchange.proofs.cuts.cuts_of.Goals as goal

pub loop-i-preserved : goal.loop-i-preserved
loop-i-preserved g c =
    let p = g.C.Columns.problem c.args.columns.now in
    least-more (λ i. flat_map (λ k. cut_at p c.args.plan.now c.args.a i k) (range_with_len 0 (length p.caps))) 0 c.loop-i.i c.loop-i.i
    c.args.best c.loop-i.least _ (omega arith) c.loop-i.invariant c.cuts_at-least.ensures
