use Rattle.std.proofs.Common.{sym, ◌∙◌}
use Rattle.mark_cover.proofs.gaps.class_gap.Goals as goal

pub is_unmet_in-requires-clause-placed : goal.is_unmet_in-requires-clause-placed
is_unmet_in-requires-clause-placed g c = λ b e.
    let laws = g.met.M.Marks in
    let at_start = (laws.placed c.args.m.now).starts c.args.class c.loop-item.item b (sym c.first.ensures ∙ e) in
    (at_start.1, at_start.2)
