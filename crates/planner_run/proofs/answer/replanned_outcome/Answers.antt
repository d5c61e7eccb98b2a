use Rattle.std.proofs.Common.{length}
use Rattle.planner_run.proofs.ReplanLemmas.{least_of_parts, replan_refused, replan_whole}
use Rattle.planner_run.proofs.answer.replanned_outcome.Goals as goal

pub split_earlier-planning-requires : goal.split_earlier-planning-requires
split_earlier-planning-requires g c =
    let r = c.args.request.now in
    least_of_parts r.command r.effort r.flow (length r.names) c.args.moment (length c.args.parts) c.requires.replan c.requires.number

pub returns-in-Ok-clause-written : goal.returns-in-Ok-clause-written
returns-in-Ok-clause-written g c =
    let r = c.args.request.now in
    let s = c.split_earlier-planning in
    replan_whole r.command r.effort r.flow (length r.names) c.args.moment c.requires.replan c.args.parts s.result.planning s.result.plan
    c.in-Ok.tables.items r.day c.replanned_text.result s.ensures.parts
    c.requires.number c.in-Ok.ensures.all (rw (← c.from_vec.ensures, ← c.as_slice.ensures) c.replanned_text.ensures.written)

pub returns-in-Ok-clause-cause : goal.returns-in-Ok-clause-cause
returns-in-Ok-clause-cause g c =
    let r = c.args.request.now in
    let s = c.split_earlier-planning in
    replan_refused r.command r.effort r.flow (length r.names) c.args.moment c.requires.replan c.args.parts s.result.planning s.result.plan
    c.in-Ok.tables.items r.day c.replanned_text.result s.ensures.parts
    c.requires.number c.in-Ok.ensures.all (rw (← c.from_vec.ensures, ← c.as_slice.ensures) c.replanned_text.ensures.cause)
