use Rattle.std.proofs.Common.{◌<◌, Bool, false, List, length, get_or, ap, ◌∙◌, arith, length-set}
use Rattle.cover_core.proofs.Values.{AllBelow-get}
use Rattle.plan_round.proofs.Takes.{marked-more}
use Rattle.plan_round.proofs.take.mark.Goals as goal

pub set-requires : goal.set-requires
set-requires c =
    let item = get_or c.args.list.now c.loop-item.item-index 0 in
    let below : item < length c.args.free.now =
    AllBelow-get _ c.args.list.now c.loop-item.item-index c.requires.items c.loop-item-test.true in
    omega (arith, c.loop-item.invariant.len)

pub loop-item-preserved : goal.loop-item-preserved
loop-item-preserved c =
    let item = get_or c.args.list.now c.loop-item.item-index 0 in
    let below : item < length c.args.free.now =
    AllBelow-get _ c.args.list.now c.loop-item.item-index c.requires.items c.loop-item-test.true in
    let inside : item < length c.loop-item.free = omega (arith, c.loop-item.invariant.len) in
    record {
      marked = λ i. ap (λ (l : List Bool). get_or l i false) c.set.ensures
          ∙ marked-more c.args.free.now c.loop-item.free c.args.list.now c.loop-item.item-index i c.loop-item-test.true inside
          (c.loop-item.invariant.marked i);
      len = ap (λ (l : List Bool). length l) c.set.ensures ∙ (length-set c.loop-item.free item false ∙ c.loop-item.invariant.len);
    }
