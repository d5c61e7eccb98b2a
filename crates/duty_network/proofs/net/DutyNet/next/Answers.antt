use Rattle.std.proofs.Common.{◌∙◌}
use Rattle.duty_network.proofs.Better.{next-shape}
use Rattle.duty_network.proofs.net.DutyNet.next.Goals as goal

pub returns : goal.returns
returns c =
    c.next_open.ensures
    ∙ next-shape c.args.self.now c.args.group.now c.args.prices.now c.args.mark.now c.args.item c.piece-piece.result.now c.pause-time.result
    c.requires.fits.piece c.piece-piece.ensures.piece c.pause-time.ensures
