use Rattle.std.proofs.Common.{◌+◌, length, arith}
use Rattle.std.specs.Prelude.{flat_map}
use Rattle.std.specs.List.{range_with_len}
use Rattle.cover_core.specs.Parts.{column_at}
use Rattle.tail_exchange.specs.Exchange.{swap_at}
use Rattle.tail_exchange.proofs.Folds.{least-more}
use Rattle.tail_exchange.proofs.swaps.swaps_of.Goals as goal

pub loop-i-preserved : goal.loop-i-preserved
loop-i-preserved g c =
    let p = g.C.Columns.problem c.args.columns.now in
    least-more (λ i. flat_map (λ j. swap_at p c.args.plan.now c.args.a c.args.b i j)
    (range_with_len 0 (length (column_at c.args.plan.now c.args.b).items + 1))) 0 c.loop-i.i c.loop-i.i c.args.best
    c.loop-i.least _ (omega arith)
    c.loop-i.invariant c.swaps_at-least.ensures
