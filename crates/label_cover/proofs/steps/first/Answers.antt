use Rattle.std.proofs.Common.{◌∙◌}
use Rattle.label_cover.proofs.Shapes.{first-priced}
use Rattle.label_cover.proofs.steps.first.Goals as goal

pub returns : goal.returns
returns c = c.less_some.ensures ∙ first-priced c.args.net.now c.args.prices.now.items c.args.class c.args.group.now c.args.item
    c.first.result c.first.ensures
