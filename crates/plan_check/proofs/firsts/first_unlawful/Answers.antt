use Rattle.std.proofs.Common.{sym}
use Rattle.plan_check.proofs.Decided.{unlawful-found}
use Rattle.plan_check.proofs.firsts.first_unlawful.Goals as goal

pub returns : goal.returns
returns g c = unlawful-found (g.C.Columns.problem c.args.columns.now) c.args.lists.now c.first_place.result (sym c.first_place.ensures)
