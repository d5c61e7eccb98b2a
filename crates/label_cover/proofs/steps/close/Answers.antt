use Rattle.std.proofs.Common.{◌∙◌}
use Rattle.point_grid.proofs.Flat.{there}
use Rattle.label_cover.proofs.Shapes.{close-parts}
use Rattle.label_cover.proofs.steps.close.Goals as goal

pub returns : goal.returns
returns c =
    let d = c.args.net.now in
    let (p, is) = there d.pieces c.args.mark.now.piece c.requires.last in
    c.closed_some.ensures
    ∙ close-parts d c.args.group.now c.args.mark.now p c.sign_off-off.result c.closing-more.result is (c.sign_off-off.ensures p is)
    (c.closing-more.ensures.value p is)
