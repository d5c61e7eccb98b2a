use Rattle.std.proofs.Common.{◌≡◌, ℕ, List, [], ◌∷◌, ◌++◌, length, sym, ap, ◌∙◌, subst, arith, length-append}
use Rattle.offer_estimate.specs.Scales.{AreCaps}
use Rattle.climb_rounds.proofs.Lists.{caps_push}
use Rattle.climb_rounds.proofs.setting.moderate_caps.Goals as goal

pub loop-class-preserved : goal.loop-class-preserved
loop-class-preserved g c =
    let pushed : c.push.new.self ≡ c.loop-class.caps ++ c.cap.result ∷ [] = c.in_ok-push.ensures.ok in
    let P : List ℕ → Type 0 = λ l. AreCaps l in
    record {
      len = ap (λ (l : List ℕ). length l) pushed
          ∙ (omega (arith, length-append c.loop-class.caps (c.cap.result ∷ []), c.loop-class.invariant.len));
      caps = subst P (sym pushed) (caps_push c.loop-class.caps c.cap.result c.loop-class.invariant.caps c.cap.ensures.few);
    }
