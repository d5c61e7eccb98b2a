use Rattle.std.proofs.Common.{◌∙◌, ◌+◌, ap}
use Rattle.tail_exchange.proofs.Places.{cut-stays, cut-vanishes}
use Rattle.tail_exchange.proofs.shifts.cut_shift.Goals as goal

pub returns-then-step-eq0 : goal.returns-then-step-eq0
returns-then-step-eq0 g c =
    let s = c.args.step in
    let value = c.columns_of-len.ensures.value in
    λ len. rw value (cut-vanishes (g.C.Columns.problem c.args.columns.now) c.args.plan.now s.a s.i s.j c.requires.below
    c.if-step-eq0.true (len ∙ value))

pub returns-else-step-eq0 : goal.returns-else-step-eq0
returns-else-step-eq0 g c =
    let s = c.args.step in
    let value = c.columns_of-len.ensures.value in
    λ len. rw value (cut-stays (g.C.Columns.problem c.args.columns.now) c.args.plan.now s.a s.i s.j c.requires.below
    (len ∙ ap (λ n. n + 1) value))
