use Rattle.std.proofs.Common.{arith}
use Rattle.mark_cover.proofs.Keys.{step-grouped}
use Rattle.mark_cover.proofs.groups.are_grouped.Goals as goal

pub returns : goal.returns
returns g c = λ is.
    let past = c.loop-place-test.false in
    step-grouped (g.M.Marks.marking c.args.m.now) c.args.marks.now (λ k a b below. c.loop-place.invariant k a b (omega arith))
