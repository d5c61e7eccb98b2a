use Rattle.umlauf_write.proofs.Lasts.{last_or-last}
use Rattle.umlauf_write.proofs.duties.last_of.Goals as goal

pub loop-item-init : goal.loop-item-init
loop-item-init c = last_or-last c.args.items.now
