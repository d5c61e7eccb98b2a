use Rattle.mark_cover.proofs.Firsts.{start-first, step-first, gap-no-cover, closing-some, closing-none, closing-onto}
use Rattle.mark_cover.proofs.gaps.first_gap.Goals as goal

pub returns-in-Some-clause-first : goal.returns-in-Some-clause-first
returns-in-Some-clause-first g c =
    let laws = g.met.M.Marks in
    start-first (g.M.Marks.marking c.args.m.now) c.args.marks.now c.args.class_prices.now c.in-Some.gap
    (laws.placed c.args.m.now) c.in-Some.ensures

pub returns-in-Some-clause-onto : goal.returns-in-Some-clause-onto
returns-in-Some-clause-onto g c = λ cover.
    let laws = g.met.M.Marks in
    let m = g.M.Marks.marking c.args.m.now in
    let first = start-first m c.args.marks.now c.args.class_prices.now c.in-Some.gap (laws.placed c.args.m.now) c.in-Some.ensures in
    absurd (gap-no-cover m c.args.marks.now c.args.class_prices.now c.in-Some.gap first.is_gap cover)

pub returns-in-Some-step_gap-clause-first : goal.returns-in-Some-step_gap-clause-first
returns-in-Some-step_gap-clause-first g c =
    let laws = g.met.M.Marks in
    step-first (g.M.Marks.marking c.args.m.now) c.args.marks.now c.args.class_prices.now c.in-Some-step_gap.gap (laws.placed c.args.m.now)
    c.in-None.ensures c.in-Some-step_gap.ensures

pub returns-in-Some-step_gap-clause-onto : goal.returns-in-Some-step_gap-clause-onto
returns-in-Some-step_gap-clause-onto g c = λ cover.
    let laws = g.met.M.Marks in
    let m = g.M.Marks.marking c.args.m.now in
    let first = step-first m c.args.marks.now c.args.class_prices.now c.in-Some-step_gap.gap (laws.placed c.args.m.now) c.in-None.ensures
    c.in-Some-step_gap.ensures in
    absurd (gap-no-cover m c.args.marks.now c.args.class_prices.now c.in-Some-step_gap.gap first.is_gap cover)

pub returns-in-None-step_gap-clause-first : goal.returns-in-None-step_gap-clause-first
returns-in-None-step_gap-clause-first g c =
    let laws = g.met.M.Marks in
    closing-some (g.M.Marks.marking c.args.m.now) c.args.marks.now c.args.class_prices.now c.closing_gap.result (laws.placed c.args.m.now)
    c.in-None.ensures c.in-None-step_gap.ensures c.closing_gap.ensures

pub returns-in-None-step_gap-clause-none : goal.returns-in-None-step_gap-clause-none
returns-in-None-step_gap-clause-none g c =
    let laws = g.met.M.Marks in
    closing-none (g.M.Marks.marking c.args.m.now) c.args.marks.now c.args.class_prices.now c.closing_gap.result (laws.placed c.args.m.now)
    c.in-None.ensures c.in-None-step_gap.ensures c.closing_gap.ensures

pub returns-in-None-step_gap-clause-onto : goal.returns-in-None-step_gap-clause-onto
returns-in-None-step_gap-clause-onto g c =
    let laws = g.met.M.Marks in
    closing-onto (g.M.Marks.marking c.args.m.now) c.args.marks.now c.args.class_prices.now c.closing_gap.result (laws.placed c.args.m.now)
    c.in-None.ensures c.in-None-step_gap.ensures c.closing_gap.ensures
