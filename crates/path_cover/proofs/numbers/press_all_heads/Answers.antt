use Rattle.std.proofs.Common.{◌≤◌, ℕ, Bool, sym, subst, ◌∙◌}
use Rattle.path_cover.specs.declared.growth.Falls.{Falls}
use Rattle.path_cover.specs.Sweeps.{IsFitting, IsSwept}
use Rattle.path_cover.proofs.Sweeping.{asked_more, swept_more}
use Rattle.path_cover.proofs.numbers.press_all_heads.Goals as goal

pub loop-x-preserved : goal.loop-x-preserved
loop-x-preserved g c =
    let net = g.A.Arcs.net c.args.arcs.now in
    let placing = c.args.placing.now in
    let inv = c.loop-x.invariant in
    let old = c.args.numbers.now in
    let mid = c.loop-x.numbers in
    let new = c.press_heads-pressed.new.numbers in
    let a = c.loop-x.moved in
    let b = c.press_heads-pressed.result in
    let e = c.press_heads-pressed.ensures in
    record {
      swept = subst (λ (r : Bool). IsSwept net placing old new r) (sym c.either-moved.ensures)
          (swept_more net placing old mid new a b inv.swept e.swept);
      asked = λ still. asked_more (λ (f : Falls) (w : ℕ). (v : ℕ) → v ≤ net.nodes → IsFitting net f w v) c.loop-x.x mid new a b inv.asked
          e.swept.same e.fits (sym c.either-moved.ensures ∙ still);
    }
