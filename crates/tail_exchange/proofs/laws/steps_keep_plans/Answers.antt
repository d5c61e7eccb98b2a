use Rattle.tail_exchange.proofs.Steps.{steps_keep_plans, steps_improve}
use Rattle.tail_exchange.proofs.laws.steps_keep_plans.Goals as goal

pub returns-clause-keep : goal.returns-clause-keep
returns-clause-keep g c = λ columns. steps_keep_plans _ (g.met.C.Columns.listed columns)

pub returns-clause-improve : goal.returns-clause-improve
returns-clause-improve g c = λ columns. steps_improve _ (g.met.C.Columns.listed columns)
