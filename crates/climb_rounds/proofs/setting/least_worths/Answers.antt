use Rattle.std.proofs.Common.{◌≡◌, ℤ, pos, ◌≤ℤ◌, List, [], ◌∷◌, ◌++◌, length, sym, ap, ◌∙◌, subst, arith, length-append, to_z, of_z, w64}
use Rattle.std.proofs.lemmas.Int.{ints}
use Rattle.offer_estimate.specs.Scales.{AreWorths}
use Rattle.climb_rounds.proofs.Lists.{worths_push}
use Rattle.climb_rounds.proofs.setting.least_worths.Goals as goal

pub loop-class-preserved : goal.loop-class-preserved
loop-class-preserved g c =
    let z : ℤ = to_z w64 (of_z w64 c.least_worth.result) in
    let l = c.least_worth.ensures.low in
    let h = c.least_worth.ensures.high in
    let low : pos 1 ≤ℤ z = omega (arith, ints) in
    let high : z ≤ℤ pos 4000000000000 = omega (arith, ints) in
    let pushed : c.push.new.self ≡ c.loop-class.worths ++ z ∷ [] = c.in_ok-push.ensures.ok in
    let P : List ℤ → Type 0 = λ l. AreWorths l in
    record {
      len = ap (λ (l : List ℤ). length l) pushed ∙ (omega (arith, length-append c.loop-class.worths (z ∷ []), c.loop-class.invariant.len));
      worths = subst P (sym pushed) (worths_push c.loop-class.worths z c.loop-class.invariant.worths low high);
    }
