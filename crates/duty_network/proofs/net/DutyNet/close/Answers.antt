use Rattle.std.proofs.Common.{◌∙◌}
use Rattle.point_grid.proofs.Flat.{there}
use Rattle.duty_network.proofs.Better.{close-shape}
use Rattle.duty_network.proofs.net.DutyNet.close.Goals as goal

pub returns : goal.returns
returns c =
    let piece = there c.args.self.now.pieces c.args.mark.now.piece c.requires.fits.piece in
    c.value_at_sign_off.ensures
    ∙ close-shape c.args.self.now c.args.group.now c.args.mark.now piece.0 c.counts.result c.sign_off-off.result piece.1 c.counts.ensures
    (c.sign_off-off.ensures.value piece.0 piece.1)
