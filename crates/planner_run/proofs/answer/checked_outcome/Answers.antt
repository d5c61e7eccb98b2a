use Rattle.std.proofs.Common.{length}
use Rattle.planner_run.proofs.CheckLemmas.{check_refused, check_whole}
use Rattle.planner_run.proofs.answer.checked_outcome.Goals as goal

pub returns-in-Ok-clause-written : goal.returns-in-Ok-clause-written
returns-in-Ok-clause-written c =
    let r = c.args.request.now in
    let s = c.split_plan-planning in
    check_whole r.command r.effort r.flow (length r.names) c.requires.check c.args.parts s.result.planning s.result.plan s.result.cert
    c.in-Ok.tables.items r.day c.check_text.result s.ensures.parts
    c.requires.number c.in-Ok.ensures.all
    (rw (← c.from_vec.ensures, ← c.as_slice.ensures, ← c.as_slice-in-Ok.ensures) c.check_text.ensures.written)

pub returns-in-Ok-clause-cause : goal.returns-in-Ok-clause-cause
returns-in-Ok-clause-cause c =
    let r = c.args.request.now in
    let s = c.split_plan-planning in
    check_refused r.command r.effort r.flow (length r.names) c.requires.check c.args.parts s.result.planning s.result.plan s.result.cert
    c.in-Ok.tables.items r.day c.check_text.result s.ensures.parts
    c.requires.number c.in-Ok.ensures.all (rw (← c.from_vec.ensures) c.check_text.ensures.cause)
