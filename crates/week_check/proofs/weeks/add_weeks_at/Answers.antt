use Rattle.std.proofs.Common.{ℤ, ◌≡◌, ◌∙◌, sym, false, arith, to_z, of_z, w64}
use Rattle.std.proofs.lemmas.Int.{ints}
use Rattle.week_check.specs.Days as days
use Rattle.std.proofs.lemmas.Result.{on_ok_weaker}
use Rattle.week_check.specs.Denials as spec
use Rattle.week_check.proofs.Adding.{adds_same, adds_then}
use Rattle.week_check.proofs.Lists.{weeks_is}
use Rattle.week_check.proofs.weeks.add_weeks_at.Goals as goal

pub returns : goal.returns
returns c =
    let monday : ℤ = to_z w64 (of_z w64 c.week_of-monday.result) in
    let same : monday ≡ days.week_of c.args.turn.now.day = omega (arith, ints, c.week_of-monday.ensures.value) in
    let none : spec.has_duty_in monday c.args.earlier.now ≡ false = sym c.has_duty_in.ensures ∙ c.if-has_duty_in.false in
    on_ok_weaker c.add_fortnight.result
    (λ second. adds_same _ _ _ _ (weeks_is c.args.turns.now c.args.earlier.now c.args.turn.now monday same none)
    (adds_then c.args.out.now.items c.add_weekly.new.out.items c.add_fortnight.new.out.items _ _ c.in_ok-add_weekly.ensures second))
    c.add_fortnight.ensures
