use Rattle.std.proofs.Common.{sym, ◌∙◌, arith}
use Rattle.mark_cover.proofs.Firsts.{past-last}
use Rattle.mark_cover.proofs.gaps.mark_gap.Goals as goal

pub loop-item-init : goal.loop-item-init
loop-item-init g c = λ k below.
    let laws = g.met.M.Marks in
    let last = c.last-item.ensures in
    past-last (g.M.Marks.marking c.args.m.now) c.args.marks.now c.args.mark.now k (laws.placed c.args.m.now) (omega arith)

pub is_unmet_in-requires-clause-placed : goal.is_unmet_in-requires-clause-placed
is_unmet_in-requires-clause-placed g c = λ b e.
    let laws = g.met.M.Marks in
    let at_step = (laws.placed c.args.m.now).steps c.args.mark.now b c.loop-item.item (sym c.next.ensures ∙ e) in
    (at_step.2 ∙ sym c.class_of-class.ensures, at_step.3)
