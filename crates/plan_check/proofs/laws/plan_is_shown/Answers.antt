use Rattle.plan_check.proofs.Lists.{shows}
use Rattle.plan_check.proofs.laws.plan_is_shown.Goals as goal

pub returns : goal.returns
returns g c = λ columns. shows (g.C.Columns.problem columns) (c.weak_duality.ensures columns) (c.plan_sizes.ensures.count columns)
