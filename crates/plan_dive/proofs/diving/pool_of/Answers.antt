use Rattle.std.proofs.Common.{length}
use Rattle.price_rounds.proofs.Pools.{fit_cheap}
use Rattle.plan_dive.proofs.diving.pool_of.Goals as goal

pub returns-clause-cheap : goal.returns-clause-cheap
returns-clause-cheap g c =
    let p = g.C.Columns.problem c.args.problem.now in
    fit_cheap p.items (length p.caps) c.add_all.new.pool c.in_ok-add_all.ensures.ready.fit
