use Rattle.std.proofs.Common.{◌*◌, ◌<◌, ◌≤◌, arith, rules, sym, subst, length}
use Rattle.depot_network.specs.Network.{NetFacts, caps_of}
use Rattle.path_pricing.proofs.Places.{no_pool, pool_there}
use Rattle.path_pricing.proofs.pricer.PathPricerPricer.best.Goals as goal

pub rests_from-requires-clause-there : goal.rests_from-requires-clause-there
rests_from-requires-clause-there c =
    let P : NetFacts → Type 0 = λ net. c.args.class < length (caps_of net.day.params.pools) in
    pool_there c.self.inside.net.now.day.params.pools c.pools.result.now c.args.class no_pool (search rules)
    (subst P (sym c.self.view_is) c.requires.class)

pub best_of_pool-requires-clause-there : goal.best_of_pool-requires-clause-there
best_of_pool-requires-clause-there c =
    let P : NetFacts → Type 0 = λ net. c.args.class < length (caps_of net.day.params.pools) in
    pool_there c.self.inside.net.now.day.params.pools c.pools.result.now c.args.class no_pool (search rules)
    (subst P (sym c.self.view_is) c.requires.class)

pub overflow_mul-group : goal.overflow_mul-group
overflow_mul-group c =
    let few : length c.self.inside.net.now.day.trips ≤ 3000 = search rules in
    let P : NetFacts → Type 0 = λ net. 16 * c.args.group < length net.day.trips in
    let within : 16 * c.args.group < length c.self.inside.net.now.day.trips = subst P (sym c.self.view_is) c.requires.group in
    omega (arith, few, within)
