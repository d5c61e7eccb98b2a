use Rattle.std.proofs.Common.{◌≡◌, ◌+◌, ◌-◌, ◌≤◌, ap, ◌∙◌, arith}
use Rattle.std.specs.Prelude.{flat_map}
use Rattle.std.specs.List.{range_with_len}
use Rattle.tail_exchange.specs.Exchange.{swaps_of}
use Rattle.tail_exchange.specs.Leasts.{least_from}
use Rattle.tail_exchange.proofs.Folds.{least-more}
use Rattle.tail_exchange.proofs.swaps.all_swaps_of.Goals as goal

pub loop-b-preserved : goal.loop-b-preserved
loop-b-preserved g c =
    let p = g.C.Columns.problem c.args.columns.now in
    let a = c.args.a in
    let b = c.loop-b.b in
    let low : a + 1 ≤ b = c.loop-b.invariant.low in
    let at : a + 1 + (b - (a + 1)) ≡ b = omega arith in
    let more : b - (a + 1) + 1 ≡ b + 1 - (a + 1) = omega arith in
    record {
      low = omega arith;
      least = least-more (λ k. swaps_of p c.args.plan.now a k) (a + 1) (b - (a + 1)) b c.args.best
          c.loop-b.least _ at c.loop-b.invariant.least c.swaps_of-least.ensures ∙
          ap (λ n. least_from c.args.best (flat_map (λ k. swaps_of p c.args.plan.now a k) (range_with_len (a + 1) n))) more;
    }
