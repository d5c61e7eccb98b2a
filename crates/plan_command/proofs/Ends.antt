-- Planning of a day ends in one way alone: one plan of blocks is known or none, and then the method of the day has one ending.
use Rattle.std.proofs.Common.{true, false}
use Rattle.cover_plan.specs.Endings.{EndsOnce}
use Rattle.cover_plan.proofs.Once.{one_ending_by}
use Rattle.day_method.proofs.Days.{one_day}
use Rattle.day_model.specs.Facts.{DayFacts}
use Rattle.depot_network.specs.Network.{blocks_of}
use Rattle.one_pool_flow.proofs.Unique.{flow_plan_is_one, flow_prices_are_one}
use Rattle.plan_command.specs.Once.{PlanEndsOnce}
use Rattle.plan_command.specs.Planning.{day_problems}
use Rattle.plan_command.proofs.Known.{one_known}
use Rattle.plan_command.proofs.OneAnswer.{HasOneKnown, plan_ends_once}

pub known_once : (facts : DayFacts) → HasOneKnown facts
known_once facts = one_known facts (flow_plan_is_one facts) (flow_prices_are_one facts)

pub planning_ends_once : (facts : DayFacts) → PlanEndsOnce facts
planning_ends_once facts =
    plan_ends_once facts (known_once facts)
    (λ known numbers fixed one other h k. one_day (day_problems facts known) numbers fixed one other h k)

pub blocks_end_once : (facts : DayFacts) → EndsOnce (blocks_of facts true) (blocks_of facts false)
blocks_end_once facts =
    λ numbers fixed known one other h k. one_ending_by (blocks_of facts true) (blocks_of facts false) numbers fixed known one other h k
