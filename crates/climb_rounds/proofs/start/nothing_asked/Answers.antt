use Rattle.std.proofs.Common.{◌≡◌, ℤ, pos, ◌≤ℤ◌, List, [], ◌∷◌, ◌++◌, length, sym, ap, ◌∙◌, subst, arith, length-append}
use Rattle.std.proofs.lemmas.Int.{ints}
use Rattle.lagrangian_climb.specs.Choices.{AreAsked}
use Rattle.climb_rounds.proofs.Lists.{asked_push}
use Rattle.climb_rounds.proofs.start.nothing_asked.Goals as goal

pub loop-class-preserved : goal.loop-class-preserved
loop-class-preserved c =
    let z : ℤ = pos 0 in
    let low : pos 0 ≤ℤ z = omega (arith, ints) in
    let high : z ≤ℤ pos 30000000000000000 = omega (arith, ints) in
    let pushed : c.push.new.self ≡ c.loop-class.asked ++ z ∷ [] = c.in_ok-push.ensures.ok in
    let P : List ℤ → Type 0 = λ l. AreAsked l in
    record {
      len = ap (λ (l : List ℤ). length l) pushed ∙ (omega (arith, length-append c.loop-class.asked (z ∷ []), c.loop-class.invariant.len));
      asked = subst P (sym pushed) (asked_push c.loop-class.asked z c.loop-class.invariant.asked low high);
    }
