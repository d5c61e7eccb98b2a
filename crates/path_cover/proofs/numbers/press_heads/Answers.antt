use Rattle.std.proofs.Common.{ℕ, Bool, sym, subst, ◌∙◌}
use Rattle.path_cover.specs.declared.growth.Falls.{Falls}
use Rattle.path_cover.specs.Sweeps.{IsFitting, IsSwept}
use Rattle.path_cover.proofs.Sweeping.{asked_more, swept_more}
use Rattle.path_cover.proofs.numbers.press_heads.Goals as goal

pub loop-v-preserved : goal.loop-v-preserved
loop-v-preserved g c =
    let net = g.A.Arcs.net c.args.arcs.now in
    let placing = c.args.placing.now in
    let inv = c.loop-v.invariant in
    let old = c.args.numbers.now in
    let mid = c.loop-v.numbers in
    let new = c.press_head-pressed.new.numbers in
    let a = c.loop-v.moved in
    let b = c.press_head-pressed.result in
    let e = c.press_head-pressed.ensures in
    record {
      swept = subst (λ (r : Bool). IsSwept net placing old new r) (sym c.either-moved.ensures)
          (swept_more net placing old mid new a b inv.swept e.swept);
      asked = λ still. asked_more (λ (f : Falls) (w : ℕ). IsFitting net f c.args.x w) c.loop-v.v mid new a b inv.asked e.swept.same e.fits
          (sym c.either-moved.ensures ∙ still);
    }
