use Rattle.std.proofs.Common.{◌≡◌, ◌+◌, ℕ, sym, subst, arith}
use Rattle.std.specs.Prelude.{replicate}
use Rattle.path_cover.specs.declared.growth.Falls.{Falls}
use Rattle.path_cover.specs.Searching.{AreLow}
use Rattle.path_cover.proofs.Leasts.{covers_first, covers_greatest, covers_low, firsts_plain, floor_of, follow_plain, start_seated}
use Rattle.path_cover.proofs.least.least_cover.Goals as goal

pub place_all-requires-clause-seated : goal.place_all-requires-clause-seated
place_all-requires-clause-seated g c =
    let net = g.A.Arcs.net c.args.arcs.now in
    let n_is = c.nodes-n.ensures.value in
    let few = c.nodes-n.ensures.few in
    let falls = c.in_ok-falls.falls in
    let placing = c.in_ok-placing.placing in
    let e = c.in_ok-placing.ensures in
    start_seated net falls placing c.most-most.result (omega arith) c.most-most.ensures.value c.most-most.ensures.few
    (subst (λ (k : ℕ). falls.tails.items ≡ replicate (k + 1) 0) n_is c.in_ok-falls.ensures.tails)
    (subst (λ (k : ℕ). falls.heads.items ≡ replicate (k + 1) 0) n_is c.in_ok-falls.ensures.heads)
    (subst (λ (k : ℕ). placing.to.items ≡ replicate k 4294967295) n_is e.to)
    (subst (λ (k : ℕ). placing.from.items ≡ replicate k 4294967295) n_is e.from) e.spare e.room

pub greatest-requires-clause-floor : goal.greatest-requires-clause-floor
greatest-requires-clause-floor g c =
    floor_of (g.A.Arcs.net c.args.arcs.now) c.make_first.new.falls c.make_first.new.placing c.make_first.ensures.seated
    (subst (λ (f : Falls). AreLow f 5000000000000000) (sym c.make_first.ensures.same) c.place_all.ensures.low)

pub returns-clause-first : goal.returns-clause-first
returns-clause-first g c =
    let net = g.A.Arcs.net c.args.arcs.now in
    let placing = c.make_first.new.placing in
    let lists = c.in_ok-paths.paths in
    let e = c.make_first.ensures in
    covers_first net (g.met.A.Arcs.rising c.args.arcs.now) c.make_first.new.falls placing lists e.seated e.placed e.first
    (follow_plain net c.nodes-n.result c.as_slice.result.now placing.to.items lists c.nodes-n.ensures.value c.as_slice.ensures.value
    c.in_ok-paths.ensures.follow)
    (firsts_plain net c.nodes-n.result c.as_slice-2.result.now placing.from.items lists c.nodes-n.ensures.value c.as_slice-2.ensures.value
    c.in_ok-paths.ensures.firsts)

pub returns-clause-greatest : goal.returns-clause-greatest
returns-clause-greatest g c =
    let net = g.A.Arcs.net c.args.arcs.now in
    let placing = c.make_first.new.placing in
    let lists = c.in_ok-paths.paths in
    let e = c.make_first.ensures in
    covers_greatest net (g.met.A.Arcs.rising c.args.arcs.now) c.make_first.new.falls c.greatest.new.numbers placing lists e.seated e.placed
    (follow_plain net c.nodes-n.result c.as_slice.result.now placing.to.items lists c.nodes-n.ensures.value c.as_slice.ensures.value
    c.in_ok-paths.ensures.follow)
    (firsts_plain net c.nodes-n.result c.as_slice-2.result.now placing.from.items lists c.nodes-n.ensures.value c.as_slice-2.ensures.value
    c.in_ok-paths.ensures.firsts)
    c.greatest.ensures.high c.greatest.ensures.numbers

pub returns-clause-low : goal.returns-clause-low
returns-clause-low g c =
    let net = g.A.Arcs.net c.args.arcs.now in
    let placing = c.make_first.new.placing in
    let lists = c.in_ok-paths.paths in
    let e = c.make_first.ensures in
    let follow = follow_plain net c.nodes-n.result c.as_slice.result.now placing.to.items lists c.nodes-n.ensures.value
    c.as_slice.ensures.value c.in_ok-paths.ensures.follow in
    let firsts = firsts_plain net c.nodes-n.result c.as_slice-2.result.now placing.from.items lists c.nodes-n.ensures.value
    c.as_slice-2.ensures.value c.in_ok-paths.ensures.firsts in
    let first = covers_first net (g.met.A.Arcs.rising c.args.arcs.now) c.make_first.new.falls placing lists e.seated
    e.placed e.first follow firsts in
    covers_low net (g.met.A.Arcs.rising c.args.arcs.now) (g.met.A.Arcs.cheap c.args.arcs.now) c.greatest.new.numbers lists
    c.greatest.ensures.places first.cover
    (covers_greatest net (g.met.A.Arcs.rising c.args.arcs.now) c.make_first.new.falls c.greatest.new.numbers placing lists e.seated e.placed
    follow firsts c.greatest.ensures.high c.greatest.ensures.numbers)
