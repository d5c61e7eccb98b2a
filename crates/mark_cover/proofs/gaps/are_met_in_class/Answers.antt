use Rattle.std.proofs.Common.{arith}
use Rattle.mark_cover.proofs.Firsts.{items-more}
use Rattle.mark_cover.proofs.gaps.are_met_in_class.Goals as goal

pub loop-item-preserved : goal.loop-item-preserved
loop-item-preserved g c =
    items-more (g.M.Marks.marking c.args.m.now) c.args.marks.now c.args.class c.loop-item.item
    (c.are_met_by.ensures c.if-not-are_met_by.false) c.loop-item.invariant

pub returns : goal.returns
returns g c = λ is item below.
    let past = c.loop-item-test.false in
    let count = c.items-item-end.ensures in
    c.loop-item.invariant item (omega (arith, below, past, count))
