use Rattle.std.proofs.Common.{sym, subst}
use Rattle.cover_core.specs.Plans.{IsPlan}
use Rattle.tail_exchange.proofs.Steps.{steps-there, steps_keep_plans}
use Rattle.tail_exchange.proofs.exchange.take.Goals as goal

pub apply-requires-clause-there : goal.apply-requires-clause-there
apply-requires-clause-there g c = steps-there (g.C.Columns.problem c.args.columns.now) c.args.plan.now c.args.step c.requires.least.0

pub returns-clause-ready : goal.returns-clause-ready
returns-clause-ready g c =
    let p = g.C.Columns.problem c.args.columns.now in
    let good = steps_keep_plans p (g.met.C.Columns.listed c.args.columns.now) c.args.plan.now c.requires.ready.plan
    c.args.step c.requires.least.0 in
    record { plan = subst (IsPlan p) (sym c.in_ok-apply.ensures.ok) good.0; cheap = c.in_ok-apply.ensures.cheap }
