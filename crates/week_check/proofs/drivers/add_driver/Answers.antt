use Rattle.std.proofs.Common.{◌≡◌, ◌∙◌, sym, Some}
use Rattle.std.proofs.lemmas.Result.{on_ok_weaker}
use Rattle.week_check.specs.Duties as duties
use Rattle.week_check.proofs.Adding.{adds_same, adds_then}
use Rattle.week_check.proofs.Lists.{complete_is}
use Rattle.week_check.proofs.drivers.add_driver.Goals as goal

pub returns-in_ok-rests-in-Some : goal.returns-in_ok-rests-in-Some
returns-in_ok-rests-in-Some c =
    let turns = c.args.turns.now in
    let first : duties.first_turn c.args.turns.now ≡ Some c.in-Some.first = sym c.first_turn.ensures ∙ c.in-Some.is in
    let rests : c.as_slice.result.now ≡ duties.rests_of c.args.turns.now = c.as_slice.ensures.value ∙ c.in_ok-rests-in-Some.ensures.value in
    on_ok_weaker c.add_rests.result
    (λ third. adds_same _ _ _ _ (complete_is c.args.turns.now c.in-Some.first c.as_slice.result.now first rests)
    (adds_then c.args.out.now.items c.add_daily.new.out.items c.add_rests.new.out.items _ _ c.in_ok-add_daily-in-Some.ensures
    (adds_then c.add_daily.new.out.items c.add_weeks.new.out.items c.add_rests.new.out.items _ _ c.in_ok-add_weeks-in-Some.ensures third)))
    c.add_rests.ensures
