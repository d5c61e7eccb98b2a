use Rattle.plan_read.proofs.Written.{reads-back}
use Rattle.plan_read.proofs.laws.plans_are_read_back.Goals as goal

pub returns : goal.returns
returns c = reads-back
