use Rattle.plan_dive.proofs.Readies.{plan_ready}
use Rattle.climb_rounds.proofs.best.ask_ready.Goals as goal

pub returns : goal.returns
returns g c =
    let p = g.C.Columns.problem c.args._problem.now in
    plan_ready p c.args.plan.now.columns (g.met.C.Columns.listed c.args._problem.now) c.requires.plan.worths c.requires.cheap
