use Rattle.std.proofs.Common.{◌≡◌, ◌+◌, arith}
use Rattle.path_cover.specs.Searching.{seen_count}
use Rattle.path_cover.proofs.Stepping.{all_seen}
use Rattle.path_cover.proofs.search.place.Goals as goal

pub returns-clause-stuck : goal.returns-clause-stuck
returns-clause-stuck g c e =
    let net = g.A.Arcs.net c.args.arcs.now in
    let inv = c.loop-turn.invariant in
    let n_is = c.nodes-turn-end.ensures.value in
    let past = c.loop-turn-test.false in
    let within = c.loop-turn.auto.turn-end in
    let count = inv.count in
    let all : seen_count c.loop-turn.growth.columns.items ≡ net.nodes + 1 = omega arith in
    all_seen net c.loop-turn.falls c.loop-turn.placing c.loop-turn.growth c.args.target inv.treed all
