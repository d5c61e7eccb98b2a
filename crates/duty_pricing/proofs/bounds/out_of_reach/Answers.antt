use Rattle.std.proofs.Common.{◌∙◌, ◌+◌, ℤ, List, sym, subst}
use Rattle.duty_pricing.specs.Bounds.{AreOut}
use Rattle.duty_pricing.proofs.Bounding.{more-out, none-out}
use Rattle.duty_pricing.proofs.bounds.out_of_reach.Goals as goal

pub loop-init : goal.loop-init
loop-init c = (let P : List (List ℤ) → Type 0 =
    λ l. AreOut 0 l in subst P (sym (c.reserve.ensures.items ∙ c.new-rows.ensures.items)) none-out)

pub loop-preserved : goal.loop-preserved
loop-preserved c =
    let P : List (List ℤ) → Type 0 = λ l. AreOut (c.loop.counter + 1) l in
    subst P (sym c.in_ok-push.ensures.items) (more-out c.loop.counter c.loop.rows.items c.loop.invariant)
