use Rattle.std.proofs.Common.{arith, ◌≡◌, sym, ◌∙◌, Some}
use Rattle.std.proofs.lemmas.Int.{ints}
use Rattle.week_check.specs.Duties as duties
use Rattle.week_check.proofs.Lists.{first_is_turn, gap_some, small_times}
use Rattle.week_check.proofs.rests.gap_after.Goals as goal

pub overflow_sub-result : goal.overflow_sub-result
overflow_sub-result c =
    let first : duties.first_turn c.args.later.now ≡ Some c.in-Some.next = sym c.first_turn.ensures ∙ c.in-Some.is in
    let next = (small_times c.in-Some.next (first_is_turn c.args.later.now c.in-Some.next first c.requires.later)).0 in
    let own = (small_times c.args.turn.now c.requires.turn).1 in
    omega (arith, ints, next.low, next.high, own.low, own.high)

pub returns-in-Some : goal.returns-in-Some
returns-in-Some c =
    let first : duties.first_turn c.args.later.now ≡ Some c.in-Some.next = sym c.first_turn.ensures ∙ c.in-Some.is in
    let next = (small_times c.in-Some.next (first_is_turn c.args.later.now c.in-Some.next first c.requires.later)).0 in
    let own = (small_times c.args.turn.now c.requires.turn).1 in
    omega (arith, ints, next.low, next.high, own.low, own.high, gap_some c.args.turn.now c.in-Some.next c.args.later.now first)
