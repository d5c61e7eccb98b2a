use Rattle.std.proofs.Common.{◌+◌, ◌<◌, arith}
use Rattle.path_cover.specs.Augmenting.{tree_of}
use Rattle.path_cover.specs.Scans.{IsNearest}
use Rattle.path_cover.proofs.Fallen.{IsLoweredBy, lowered_treed, offer_small, stuck_here}
use Rattle.path_cover.proofs.search.approach.Goals as goal

pub returns-then-target-n-clause-stuck : goal.returns-then-target-n-clause-stuck
returns-then-target-n-clause-stuck g c =
    let growth = c.args.growth.now in
    let n = c.nodes-n.result in
    let near : IsNearest growth.columns.items growth.least.items (n + 1) c.in-Some.v c.in-Some.by = c.in-Some.ensures in
    let not = c.if-by-eq0.false in
    let some : 0 < c.in-Some.by = omega arith in (
      c.requires.treed.0,
      tree_of growth,
      stuck_here (g.A.Arcs.net c.args.arcs.now) c.args.falls.now c.args.placing.now growth c.args.target
          n c.in-Some.v c.in-Some.by c.requires.treed.0 c.requires.treed.1 c.nodes-n.ensures.value near some c.if-target-n.true,
    )

pub lower-requires-clause-by : goal.lower-requires-clause-by
lower-requires-clause-by g c =
    let growth = c.args.growth.now in
    let n = c.nodes-n.result in
    let near : IsNearest growth.columns.items growth.least.items (n + 1) c.in-Some.v c.in-Some.by = c.in-Some.ensures in
    offer_small (g.A.Arcs.net c.args.arcs.now) (g.met.A.Arcs.cheap c.args.arcs.now) c.args.falls.now c.args.placing.now growth c.args.target
    n c.in-Some.v c.in-Some.by c.requires.treed.0 c.requires.treed.1 c.nodes-n.ensures.value near

pub returns-else-target-n-clause-treed : goal.returns-else-target-n-clause-treed
returns-else-target-n-clause-treed g c =
    let growth = c.args.growth.now in
    let n = c.nodes-n.result in
    let n_is = c.nodes-n.ensures.value in
    let near : IsNearest growth.columns.items growth.least.items (n + 1) c.in-Some.v c.in-Some.by = c.in-Some.ensures in
    let not = c.if-by-eq0.false in
    let some : 0 < c.in-Some.by = omega arith in
    let past = c.if-target-n.false in
    let e = c.lower.ensures in
    let lowered : IsLoweredBy n c.in-Some.by c.args.falls.now c.lower.new.falls growth c.lower.new.growth = record {
      places = e.places;
      tails = e.tails;
      heads = e.heads;
      rows = e.rows;
      columns = e.columns;
      reached = e.by;
      via = e.via;
      depth = e.depth;
      least_count = e.least_count;
      least = e.least;
    } in (
      c.requires.treed.0,
      lowered_treed (g.A.Arcs.net c.args.arcs.now) (g.met.A.Arcs.rising c.args.arcs.now) (g.met.A.Arcs.cheap c.args.arcs.now)
          c.args.falls.now c.lower.new.falls c.args.placing.now growth c.lower.new.growth
          c.args.target n c.in-Some.v c.in-Some.by c.requires.treed.0 c.requires.treed.1 n_is past (c.requires.lowers (omega arith)) some
          c.requires.count near lowered,
    )
