use Rattle.std.proofs.Common.{◌≡◌, ◌+ℤ◌, ◌≤ℤ◌, ◌∙◌, ℤ, List, pos, subst, rules, w64}
use Rattle.std.proofs.lemmas.Int.{to_z-of_z}
use Rattle.std.specs.Prelude.{FitsSigned}
use Rattle.duty_network.specs.Duties.{limits_of}
use Rattle.duty_pricing.specs.Bounds.{IsBoundFrom}
use Rattle.duty_pricing.proofs.Overs.{over-alone}
use Rattle.duty_pricing.proofs.tables.tables.Goals as goal

pub returns-then-reach-eq1 : goal.returns-then-reach-eq1
returns-then-reach-eq1 c =
    let d = c.args.net.now in
    let g = c.args.group.now in
    let over : List (List ℤ) = c.in_ok-over.over.rows.items in
    let same : c.in_ok-rows.rows.items ≡ over = c.in_ok-rows.ensures ∙ c.as_slice.ensures.value in
    let fits : FitsSigned w64 c.args.latest = search rules in
    let z = to_z-of_z w64 c.args.latest fits in
    let value = rw z at c.last_end-last.ensures.value in
    let in_time = rw z at c.last_end-last.ensures.in_time in
    let P : ℤ → Type 0 = λ z. z ≤ℤ (c.args.latest +ℤ pos 54000) in
    let earlier : (c.args.latest +ℤ pos (limits_of g).spread) ≤ℤ (c.args.latest +ℤ pos 54000) =
    subst P value in_time in
    let Q : ℤ → Type 0 = λ z. IsBoundFrom d c.args.prices.now g c.args.reach.now 0 z c.args.first over over in
    over-alone d c.args.prices.now g c.args.reach.now c.args.latest c.args.first c.in_ok-rows.rows.items over same earlier
    (subst Q c.requires.until c.in_ok-over.ensures.rows)
