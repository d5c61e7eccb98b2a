use Rattle.plan_round.proofs.Rounds.{rounds_to_plan}
use Rattle.plan_round.proofs.Room.{leaves_none}
use Rattle.plan_round.proofs.laws.rounds_to_plan.Goals as goal

pub returns-clause-plan : goal.returns-clause-plan
returns-clause-plan g c = λ columns. rounds_to_plan _ (g.met.C.Columns.listed columns)

pub returns-clause-complete : goal.returns-clause-complete
returns-clause-complete g c = λ columns. leaves_none _ (g.met.C.Columns.listed columns)
