use Rattle.std.proofs.Common.{arith, ◌≡◌, ap, ◌∙◌, to_z, of_z, w64, pos, ◌-ℤ◌}
use Rattle.std.specs.Int.{int_min}
use Rattle.std.proofs.lemmas.Int.{ints}
use Rattle.week_check.specs.Duties as duties
use Rattle.week_check.proofs.Lists.{rest_is}
use Rattle.week_check.proofs.rests.rest_of.Goals as goal

pub returns : goal.returns
returns c =
    let t = c.args.turn.now in
    let gap : to_z w64 (of_z w64 c.gap_after-gap.result) ≡ duties.gap_after t c.args.later.now =
    omega (arith, ints, c.gap_after-gap.ensures) in
    let rest : to_z w64 (of_z w64 c.within_day.result) ≡ duties.rest_after t c.args.later.now =
    (let back : to_z w64 (of_z w64 c.within_day.result) ≡ c.within_day.result = omega (arith, ints) in
    back ∙ c.within_day.ensures ∙ ap (λ g. int_min g (pos 86400 -ℤ (c.args.turn.now.end -ℤ c.args.turn.now.begin))) gap) in
    record { value = rest_is t c.args.later.now c.next_day.result _ _ c.next_day.ensures gap rest }
