use Rattle.std.proofs.Common.{length}
use Rattle.price_rounds.proofs.Leasts.{kept_bound_is, kept_class_prices, kept_is_paid, kept_is_bound}
use Rattle.price_rounds.proofs.Passes.{offered_lower}
use Rattle.price_rounds.proofs.Pools.{fit_cheap}
use Rattle.price_rounds.proofs.passing.pass.Goals as goal

pub returns-clause-cheap : goal.returns-clause-cheap
returns-clause-cheap g c =
    let p = g.P.Columns.problem c.args.pricer.now in
    fit_cheap p.items (length p.caps) c.in_ok-progress.progress.pool c.in_ok-progress.ensures.ready.pool.fit

pub returns-clause-kept : goal.returns-clause-kept
returns-clause-kept g c =
    let p = g.P.Columns.problem c.args.pricer.now in
    offered_lower p c.args.effort.now.rounds c.args.effort.now.lower c.in_ok-progress.progress c.next_offer.new.kept
    c.in_ok-progress.ensures c.in_ok-next_offer.ensures.kept

pub returns-clause-class_prices : goal.returns-clause-class_prices
returns-clause-class_prices g c =
    kept_class_prices (g.P.Columns.problem c.args.pricer.now) c.next_offer.new.kept c.in_ok-next_offer.ensures.offer

pub returns-clause-paid : goal.returns-clause-paid
returns-clause-paid g c =
    kept_is_paid (g.P.Columns.problem c.args.pricer.now) c.next_offer.new.kept (c.least_values.ensures.lists c.args.pricer.now)
    (c.least_is_paid.ensures.least c.args.pricer.now) c.in_ok-next_offer.ensures.offer

pub returns-clause-bound : goal.returns-clause-bound
returns-clause-bound g c =
    kept_is_bound (g.P.Columns.problem c.args.pricer.now) c.next_offer.new.kept (c.least_values.ensures.lists c.args.pricer.now)
    (c.least_is_paid.ensures.least c.args.pricer.now) (c.weak_duality.ensures c.args.pricer.now) c.in_ok-next_offer.ensures.offer

pub returns-clause-offer : goal.returns-clause-offer
returns-clause-offer g c = kept_bound_is (g.P.Columns.problem c.args.pricer.now) c.next_offer.new.kept c.in_ok-next_offer.ensures.offer
