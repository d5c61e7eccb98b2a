use Rattle.std.proofs.Common.{rules}
use Rattle.block_cut.proofs.LegLists.{legs_whole, pool_at, pool_there, runs, runs_there}
use Rattle.block_cut.proofs.leg_list.legs_with.Goals as goal

pub add_from-requires-clause-rest : goal.add_from-requires-clause-rest
add_from-requires-clause-rest c = (runs c.args.day.now c.args.class c.args.first c.args.rest.now c.requires.worth).below

pub add_from-requires-clause-there : goal.add_from-requires-clause-there
add_from-requires-clause-there c =
    let pooled = pool_there c.args.day.now c.args.class c.args.first c.args.rest.now c.pools.result.now c.requires.worth (search rules) in
    runs_there c.args.day.now c.args.class c.args.first (pool_at c.pools.result.now c.args.class) c.args.rest.now c.requires.worth pooled

pub returns-clause-legs : goal.returns-clause-legs
returns-clause-legs c =
    let pooled = pool_there c.args.day.now c.args.class c.args.first c.args.rest.now c.pools.result.now c.requires.worth (search rules) in
    let there = runs_there c.args.day.now c.args.class c.args.first (pool_at c.pools.result.now c.args.class)
    c.args.rest.now c.requires.worth pooled in
    legs_whole c.args.day.now c.args.class c.args.first (pool_at c.pools.result.now c.args.class) c.trip-trip.result.now c.args.rest.now
    c.pull_out_of.result c.add_from.new.legs pooled c.trip-trip.ensures.trip (search rules) there (search rules)
