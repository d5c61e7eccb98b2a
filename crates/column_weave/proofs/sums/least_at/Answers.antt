use Rattle.std.proofs.Common.{length}
use Rattle.column_weave.proofs.sums.least_at.Goals as goal

pub loop-link-init : goal.loop-link-init
loop-link-init c = c.alone-best.ensures (length c.args.least.now)
