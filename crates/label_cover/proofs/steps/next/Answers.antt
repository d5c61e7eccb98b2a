use Rattle.std.proofs.Common.{◌∙◌}
use Rattle.duty_network.proofs.Better.{next-shape}
use Rattle.label_cover.proofs.steps.next.Goals as goal

pub returns : goal.returns
returns c =
    c.next_open.ensures
    ∙ next-shape c.args.net.now c.args.group.now c.args.prices.now.items c.args.mark.now c.args.item c.piece-piece.result.now
    c.pause-time.result c.requires.last c.piece-piece.ensures.piece c.pause-time.ensures
