use Rattle.std.proofs.Common.{◌≡◌, ◌<◌, ℕ, Bool, get_or, sym, subst, ◌∙◌, arith}
use Rattle.std.proofs.lemmas.List.{get_or_default}
use Rattle.path_cover.specs.declared.growth.Falls.{Falls}
use Rattle.path_cover.specs.Sweeps.{IsSwept, IsTaut, IsTightIn}
use Rattle.path_cover.proofs.Sweeping.{asked_more, swept_more, tight_row}
use Rattle.path_cover.proofs.numbers.press_rows.Goals as goal

pub press_tail-pressed-requires-clause-tight : goal.press_tail-pressed-requires-clause-tight
press_tail-pressed-requires-clause-tight g c =
    let net = g.A.Arcs.net c.args.arcs.now in
    let placing = c.args.placing.now in
    let t = c.loop-t.t in
    let n_is = c.nodes-t-end.ensures.value in
    let inside = c.loop-t-test.true in
    let count = c.requires.count in
    let at : c.index.result.now ≡ get_or placing.to.items t 0 =
    c.index.ensures ∙ get_or_default placing.to.items t c.index.result.now 0 (omega arith) in
    let t_in : t < net.nodes = omega arith in
    subst (λ (w : ℕ). IsTightIn net placing t w) (sym at) (tight_row net placing t t_in (c.requires.placed t t_in))

pub loop-t-preserved : goal.loop-t-preserved
loop-t-preserved g c =
    let net = g.A.Arcs.net c.args.arcs.now in
    let placing = c.args.placing.now in
    let inv = c.loop-t.invariant in
    let old = c.args.numbers.now in
    let mid = c.loop-t.numbers in
    let new = c.press_tail-pressed.new.numbers in
    let a = c.loop-t.moved in
    let b = c.press_tail-pressed.result in
    let e = c.press_tail-pressed.ensures in
    let t = c.loop-t.t in
    let n_is = c.nodes-t-end.ensures.value in
    let inside = c.loop-t-test.true in
    let count = c.requires.count in
    let at : c.index.result.now ≡ get_or placing.to.items t 0 =
    c.index.ensures ∙ get_or_default placing.to.items t c.index.result.now 0 (omega arith) in
    record {
      swept = subst (λ (r : Bool). IsSwept net placing old new r) (sym c.either-moved.ensures)
          (swept_more net placing old mid new a b inv.swept e.swept);
      asked = λ still. asked_more (λ (f : Falls) (w : ℕ). IsTaut net f w (get_or placing.to.items w 0)) c.loop-t.t mid new a b inv.asked
          e.swept.same (λ still_here. subst (λ (w : ℕ). IsTaut net new t w) at (e.taut still_here)) (sym c.either-moved.ensures ∙ still);
    }
