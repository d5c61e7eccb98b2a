use Rattle.std.proofs.Common.{◌≡◌, ◌<◌, ◌≤◌, ℕ, true, false, get_or, inl, inr, sym, ap, subst, ◌∙◌, arith}
use Rattle.std.proofs.lemmas.Bool.{cases_lt}
use Rattle.std.proofs.lemmas.List.{get_or_default}
use Rattle.path_cover.specs.declared.growth.Growth.{Growth}
use Rattle.path_cover.specs.Searching.{IsOpenedAs, IsReachedBy}
use Rattle.path_cover.proofs.Opened.{IsSeenToo, opened_near, seen_once}
use Rattle.path_cover.proofs.search.reach_last.Goals as goal
use Rattle.path_cover.proofs.search.reach_last.Goals.{then-index-n, else-index-n}

pub reach_new-requires-clause-near : goal.reach_new-requires-clause-near
reach_new-requires-clause-near g c y =
    let opened = c.loop-t.invariant.opened in
    let n_is = c.nodes-n.ensures.value in
    let few = c.nodes-n.ensures.few in
    opened_near (g.A.Arcs.net c.args.arcs.now) c.args.falls.now c.args.placing.now c.loop-t.growth c.args.target
    (g.A.Arcs.net c.args.arcs.now).nodes opened.0 opened.1 (omega arith) y

pub loop-t-preserved : goal.loop-t-preserved
loop-t-preserved g c =
    let net = g.A.Arcs.net c.args.arcs.now in
    let placing = c.args.placing.now in
    let falls = c.args.falls.now in
    let target = c.args.target in
    let old = c.loop-t.growth in
    let t = c.loop-t.t in
    let inv = c.loop-t.invariant in
    let n_is : c.nodes-n.result ≡ net.nodes = c.nodes-n.ensures.value in
    let inside : t < c.nodes-n.result = c.loop-t-test.true in
    let t_in : t < net.nodes = omega arith in
    let past : target.fixed ≤ t = c.loop-t.auto.t in
    let count = inv.opened.1.seat.kept.to_count in
    let at : c.index.result.now ≡ get_or placing.to.items t 0 =
    c.index.ensures ∙ get_or_default placing.to.items t c.index.result.now 0 (omega arith) in
    elim c.if-index-n.branch [
      | then-index-n w ↦
          let new = w.reach_new.new.growth in
          let goes : get_or placing.to.items t 0 ≡ net.nodes = sym at ∙ (w.if-index-n.true ∙ n_is) in
          let seen : IsSeenToo net falls placing old new target net.nodes t =
          seen_once net falls placing old new target net.nodes t inv.opened (omega arith) past (λ below. goes)
          (λ last below. absurd (omega arith)) (λ last at_end. absurd (omega arith))
          w.reach_new.ensures.seen (λ unseen. subst (λ (k : ℕ). IsReachedBy net falls t k old new) n_is (w.reach_new.ensures.new unseen)) in
          record {
            count = n_is;
            opened = subst (λ (growth : Growth). IsOpenedAs net falls placing growth target net.nodes) (sym w.growth-is) seen.opened;
            columns = ap (λ (growth : Growth). growth.columns.items) w.growth-is ∙ (seen.columns ∙ inv.columns);
            seen = λ s late below to_end. ap (λ (growth : Growth). get_or growth.rows.items s false) w.growth-is ∙ elim (cases_lt s t) [
              | inl before ↦ seen.rows s (inv.seen s late before to_end)
              | inr after ↦ (let same : s ≡ t = omega arith in let P : ℕ → Type 0 = λ x. get_or new.rows.items x false ≡ true in
                  subst P (sym same) seen.here)
            ];
          }
      | else-index-n w ↦
          let not = w.if-index-n.false in
          record {
            count = n_is;
            opened = subst (λ (growth : Growth). IsOpenedAs net falls placing growth target net.nodes) (sym w.growth-is) inv.opened;
            columns = ap (λ (growth : Growth). growth.columns.items) w.growth-is ∙ inv.columns;
            seen = λ s late below to_end. ap (λ (growth : Growth). get_or growth.rows.items s false) w.growth-is ∙ elim (cases_lt s t) [
              | inl before ↦ inv.seen s late before to_end
              | inr after ↦ absurd (let same : s ≡ t = omega arith in let to_t : get_or placing.to.items t 0 ≡ net.nodes =
                  ap (λ (x : ℕ). get_or placing.to.items x 0) (sym same) ∙ to_end in not (at ∙ (to_t ∙ sym n_is)))
            ];
          }
    ]
