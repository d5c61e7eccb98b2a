use Rattle.std.proofs.Common.{◌∙◌}
use Rattle.duty_network.proofs.Better.{first-shape}
use Rattle.duty_network.proofs.net.DutyNet.first.Goals as goal

pub returns : goal.returns
returns c =
    c.first_open.ensures
    ∙ first-shape c.args.self.now c.args.prices.now c.args.class c.args.group.now c.args.item c.piece-piece.result.now c.counts.result
    c.sign_on-on.result c.piece-piece.ensures.piece c.counts.ensures
    (c.sign_on-on.ensures.value c.piece-piece.result.now c.piece-piece.ensures.piece)
