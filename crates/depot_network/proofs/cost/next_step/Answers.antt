use Rattle.depot_network.proofs.Bounds.{extended_cheap}
use Rattle.depot_network.proofs.cost.next_step.Goals as goal

pub returns-clause-cheap : goal.returns-clause-cheap
returns-clause-cheap c = λ cost cheap.
    extended_cheap c.args.day.now c.args.pool.now c.args.class c.args.t c.args.u c.trip.result.now c.trip-next.result.now c.in_ok-link.link
    cost c.link_cost.result c.requires.pool c.trip.ensures.trip c.trip-next.ensures.trip c.trip-next.ensures.daily c.in_ok-link.ensures.link
    c.link_cost.ensures.bound cheap
