use Rattle.std.proofs.Common.{◌≤◌, length, arith, rules}
use Rattle.std.proofs.lemmas.Int.{ints}
use Rattle.depot_network.proofs.network.PoolNet.next_open.Goals as goal

pub less-requires-clause-value_low : goal.less-requires-clause-value_low
less-requires-clause-value_low c =
    let sum = c.more.ensures in
    let up = c.scale.ensures.low in
    let low = c.requires.fits.low in
    let there = c.requires.fits.trip in
    let few : length c.args.self.now.day.trips ≤ 3000 = search rules in
    omega (arith, ints, sum, up, low, there, few)
