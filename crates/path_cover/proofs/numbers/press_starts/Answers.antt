use Rattle.std.proofs.Common.{◌≡◌, ℕ, Bool, get_or, sym, subst, ◌∙◌}
use Rattle.path_cover.specs.declared.growth.Falls.{Falls}
use Rattle.path_cover.specs.Sweeps.{IsSwept, IsTaut}
use Rattle.path_cover.proofs.Sweeping.{asked_more, swept_more}
use Rattle.path_cover.proofs.numbers.press_starts.Goals as goal

pub loop-u-preserved : goal.loop-u-preserved
loop-u-preserved g c =
    let net = g.A.Arcs.net c.args.arcs.now in
    let placing = c.args.placing.now in
    let inv = c.loop-u.invariant in
    let old = c.args.numbers.now in
    let mid = c.loop-u.numbers in
    let new = c.press_start-pressed.new.numbers in
    let a = c.loop-u.moved in
    let b = c.press_start-pressed.result in
    let e = c.press_start-pressed.ensures in
    record {
      swept = subst (λ (r : Bool). IsSwept net placing old new r) (sym c.either-moved.ensures)
          (swept_more net placing old mid new a b inv.swept e.swept);
      asked = λ still. asked_more (λ (f : Falls) (w : ℕ). get_or placing.from.items w 0 ≡ net.nodes → IsTaut net f net.nodes w) c.loop-u.u
          mid new a b inv.asked e.swept.same e.taut (sym c.either-moved.ensures ∙ still);
    }
