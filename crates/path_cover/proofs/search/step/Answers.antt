use Rattle.std.proofs.Common.{◌≡◌, ◌+◌, ℕ, get_or, refl, sym, ap, ◌∙◌, arith}
use Rattle.path_cover.specs.declared.growth.Growth.{Growth}
use Rattle.path_cover.specs.Searching.{seen_count}
use Rattle.path_cover.proofs.Opened.{opened_treed}
use Rattle.path_cover.proofs.Stepping.{no_place, placed_seated, walk_of}
use Rattle.path_cover.proofs.search.step.Goals as goal

pub augment-requires-clause-walk : goal.augment-requires-clause-walk
augment-requires-clause-walk g c =
    let found = c.in-Some.ensures in
    walk_of (g.A.Arcs.net c.args.arcs.now) c.approach.new.falls c.args.placing.now c.approach.new.growth c.args.target c.nodes-n.result
    c.in-Some.v found.treed c.nodes-n.ensures.value found.within found.unseen found.nothing
    (sym c.is_free.ensures ∙ c.if-is_free.true)

pub returns-then-is_free-clause-outcome : goal.returns-then-is_free-clause-outcome
returns-then-is_free-clause-outcome g c =
    let found = c.in-Some.ensures in
    let e = c.augment.ensures in (
      placed_seated (g.A.Arcs.net c.args.arcs.now) c.approach.new.falls c.args.placing.now c.augment.new.placing
          (found.treed.0, found.treed.1.seat) e.tight,
      record { framed = e.framed; allowed = e.root; within = e.within },
    )

pub reach_holders-requires : goal.reach_holders-requires
reach_holders-requires g c =
    let net = g.A.Arcs.net c.args.arcs.now in
    let found = c.in-Some.ensures in
    let placing = c.args.placing.now in
    let old = c.approach.new.growth in
    let n_is : c.nodes-n.result ≡ net.nodes = c.nodes-n.ensures.value in
    let within = found.within in
    let new : Growth = record {
      rows = old.rows;
      columns = c.see.new.seen;
      by = old.by;
      via = old.via;
      least =
          old.least;
      depth = old.depth;
    } in
    let none = no_place c.nodes-n.result c.in-Some.v (get_or placing.from.items c.in-Some.v 0) placing.room (omega arith)
    (sym c.is_free.ensures ∙ c.if-is_free.false) in
    let opened = opened_treed net c.approach.new.falls placing old new c.args.target c.in-Some.v found.treed
    within found.unseen found.nothing
    (λ below. (let low = none.0 (omega arith) in omega arith)) (λ at_end. none.1 (omega arith)) refl c.see.ensures refl refl refl refl in
    record { opened = opened.0 }

pub returns-else-is_free-clause-outcome : goal.returns-else-is_free-clause-outcome
returns-else-is_free-clause-outcome g c =
    let net = g.A.Arcs.net c.args.arcs.now in
    let found = c.in-Some.ensures in
    let placing = c.args.placing.now in
    let old = c.approach.new.growth in
    let n_is : c.nodes-n.result ≡ net.nodes = c.nodes-n.ensures.value in
    let within = found.within in
    let new : Growth = record {
      rows = old.rows;
      columns = c.see.new.seen;
      by = old.by;
      via = old.via;
      least =
          old.least;
      depth = old.depth;
    } in
    let none = no_place c.nodes-n.result c.in-Some.v (get_or placing.from.items c.in-Some.v 0) placing.room (omega arith)
    (sym c.is_free.ensures ∙ c.if-is_free.false) in
    let opened = opened_treed net c.approach.new.falls placing old new c.args.target c.in-Some.v found.treed
    within found.unseen found.nothing
    (λ below. (let low = none.0 (omega arith) in omega arith)) (λ at_end. none.1 (omega arith)) refl c.see.ensures refl refl refl refl in
    let count : seen_count c.reach_holders.new.growth.columns.items ≡ seen_count c.args.growth.now.columns.items + 1 =
    ap seen_count c.reach_holders.ensures.columns ∙ (opened.1 ∙ ap (λ (k : ℕ). k + 1) (ap seen_count found.columns)) in
    (c.reach_holders.ensures.treed, refl, count)
