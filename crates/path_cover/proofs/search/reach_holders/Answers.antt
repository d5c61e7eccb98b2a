use Rattle.std.proofs.Common.{◌≡◌, ◌<◌, ℕ, true, false, get_or, sym, ap, subst, ◌∙◌, arith}
use Rattle.std.proofs.lemmas.List.{get_or_default}
use Rattle.path_cover.specs.Searching.{IsReachedBy}
use Rattle.path_cover.proofs.Opened.{IsSeenToo, closed, holder_goes, opened_near, seen_once}
use Rattle.path_cover.proofs.search.reach_holders.Goals as goal

pub reach_new-requires-clause-near : goal.reach_new-requires-clause-near
reach_new-requires-clause-near g c y =
    let n_is = c.nodes-n.ensures.value in
    let few = c.nodes-n.ensures.few in
    opened_near (g.A.Arcs.net c.args.arcs.now) c.args.falls.now c.args.placing.now c.args.growth.now c.args.target c.args.v
    c.requires.opened.0 c.requires.opened.1 (omega arith) y

pub reach_new-requires-then-placing-gt0-clause-near : goal.reach_new-requires-then-placing-gt0-clause-near
reach_new-requires-then-placing-gt0-clause-near g c y =
    let opened = c.reach_last.ensures.opened in
    let n_is = c.nodes-n.ensures.value in
    let few = c.nodes-n.ensures.few in
    opened_near (g.A.Arcs.net c.args.arcs.now) c.args.falls.now c.args.placing.now c.reach_last.new.growth c.args.target
    (g.A.Arcs.net c.args.arcs.now).nodes opened.0 opened.1 (omega arith) y

pub returns-then-x-target-clause-treed : goal.returns-then-x-target-clause-treed
returns-then-x-target-clause-treed g c =
    let net = g.A.Arcs.net c.args.arcs.now in
    let placing = c.args.placing.now in
    let falls = c.args.falls.now in
    let target = c.args.target in
    let old = c.args.growth.now in
    let new = c.reach_new.new.growth in
    let v = c.args.v in
    let x = c.index-x.result.now in
    let n_is : c.nodes-n.result ≡ net.nodes = c.nodes-n.ensures.value in
    let under : v < c.nodes-n.result = c.if-v-n.true in
    let below : v < net.nodes = omega arith in
    let count = c.requires.opened.1.seat.kept.from_count in
    let x_is : x ≡ get_or placing.from.items v 0 = c.index-x.ensures ∙ get_or_default placing.from.items v x 0 (omega arith) in
    let goes = holder_goes net falls placing old target v c.requires.opened below in
    let low = goes.0 in
    let seen : IsSeenToo net falls placing old new target v x =
    seen_once net falls placing old new target v x c.requires.opened (omega arith) c.if-x-target.true
    (λ row. ap (λ (y : ℕ). get_or placing.to.items y 0) x_is ∙ goes.1 (omega arith)) (λ last column. sym x_is ∙ last)
    (λ last at_end. absurd (omega arith)) c.reach_new.ensures.seen c.reach_new.ensures.new in
    closed net falls placing new target v seen.opened
    (λ column past. (let P : ℕ → Type 0 = λ y. get_or new.rows.items y false ≡ true in subst P x_is seen.here))
    (λ at_end t past t_in to_end. absurd (omega arith)) (λ at_end some. absurd (omega arith))

pub returns-else-x-target-clause-treed : goal.returns-else-x-target-clause-treed
returns-else-x-target-clause-treed g c =
    let net = g.A.Arcs.net c.args.arcs.now in
    let placing = c.args.placing.now in
    let v = c.args.v in
    let x = c.index-x.result.now in
    let n_is : c.nodes-n.result ≡ net.nodes = c.nodes-n.ensures.value in
    let under : v < c.nodes-n.result = c.if-v-n.true in
    let before = c.if-x-target.false in
    let count = c.requires.opened.1.seat.kept.from_count in
    let x_is : x ≡ get_or placing.from.items v 0 = c.index-x.ensures ∙ get_or_default placing.from.items v x 0 (omega arith) in
    closed net c.args.falls.now placing c.args.growth.now c.args.target v c.requires.opened (λ column past. absurd (omega arith))
    (λ at_end t past t_in to_end. absurd (omega arith)) (λ at_end some. absurd (omega arith))

pub returns-then-placing-gt0-clause-treed : goal.returns-then-placing-gt0-clause-treed
returns-then-placing-gt0-clause-treed g c =
    let net = g.A.Arcs.net c.args.arcs.now in
    let placing = c.args.placing.now in
    let falls = c.args.falls.now in
    let target = c.args.target in
    let old = c.reach_last.new.growth in
    let new = c.reach_new-then-placing-gt0.new.growth in
    let opened = c.reach_last.ensures.opened in
    let n_is : c.nodes-n.result ≡ net.nodes = c.nodes-n.ensures.value in
    let e = c.reach_new-then-placing-gt0.ensures in
    let seen : IsSeenToo net falls placing old new target net.nodes net.nodes =
    seen_once net falls placing old new target net.nodes net.nodes opened (omega arith) opened.1.opening.fixed_in
    (λ row. absurd (omega arith)) (λ last column. absurd (omega arith)) (λ last at_end. c.if-placing-gt0.true)
    (λ was. (let P : ℕ → Type 0 = λ k. get_or old.rows.items k false ≡ true in e.seen (subst P (sym n_is) was)))
    (λ unseen. (let P : ℕ → Type 0 = λ k. get_or old.rows.items k false ≡ false in
    subst (λ (k : ℕ). IsReachedBy net falls k k old new) n_is (e.new (subst P (sym n_is) unseen)))) in
    closed net falls placing new target net.nodes seen.opened (λ column past. absurd (omega arith))
    (λ at_end t past t_in to_end. seen.rows t (c.reach_last.ensures.seen t past t_in to_end)) (λ at_end some. seen.here)

pub returns-else-placing-gt0-clause-treed : goal.returns-else-placing-gt0-clause-treed
returns-else-placing-gt0-clause-treed g c =
    let net = g.A.Arcs.net c.args.arcs.now in
    let none = c.if-placing-gt0.false in
    closed net c.args.falls.now c.args.placing.now c.reach_last.new.growth c.args.target net.nodes c.reach_last.ensures.opened
    (λ column past. absurd (omega arith)) (λ at_end t past t_in to_end. c.reach_last.ensures.seen t past t_in to_end)
    (λ at_end some. absurd (omega arith))
