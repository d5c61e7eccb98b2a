use Rattle.one_pool_flow.proofs.Bridge.{plans_are_covers}
use Rattle.one_pool_flow.proofs.laws.plans_are_covers.Goals as goal

pub returns : goal.returns
returns c = plans_are_covers
