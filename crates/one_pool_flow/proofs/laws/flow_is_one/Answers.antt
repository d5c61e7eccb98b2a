use Rattle.one_pool_flow.proofs.Unique.{flow_plan_is_one, flow_prices_are_one}
use Rattle.one_pool_flow.proofs.laws.flow_is_one.Goals as goal

pub returns-clause-plan : goal.returns-clause-plan
returns-clause-plan c = flow_plan_is_one

pub returns-clause-prices : goal.returns-clause-prices
returns-clause-prices c = flow_prices_are_one
