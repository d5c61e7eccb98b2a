use Rattle.plan_read.proofs.Printing.{printed-once}
use Rattle.plan_read.proofs.laws.printed_once.Goals as goal

pub returns : goal.returns
returns c = printed-once
