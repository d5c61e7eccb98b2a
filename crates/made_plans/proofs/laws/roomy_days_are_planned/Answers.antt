use Rattle.made_plans.proofs.Alone.{room_for_trips}
use Rattle.made_plans.proofs.Light.{room_for_pieces}
use Rattle.made_plans.proofs.Planned.{roomy_refused}
use Rattle.made_plans.proofs.laws.roomy_days_are_planned.Goals as goal

pub returns-clause-trips : goal.returns-clause-trips
returns-clause-trips c = λ facts is. room_for_trips facts is.pool is.group is.way is.roomy

pub returns-clause-pieces : goal.returns-clause-pieces
returns-clause-pieces c = λ facts is. room_for_pieces facts is.pool is.group is.way is.roomy

pub returns-clause-refusal : goal.returns-clause-refusal
returns-clause-refusal c = roomy_refused
