use Rattle.one_pool_flow.proofs.Listed.{paths_are_blocks}
use Rattle.one_pool_flow.proofs.laws.flow_plan_of_blocks.Goals as goal

pub returns : goal.returns
returns c = paths_are_blocks
