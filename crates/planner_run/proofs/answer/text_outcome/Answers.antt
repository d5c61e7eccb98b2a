use Rattle.std.proofs.Common.{length}
use Rattle.planner_run.proofs.CheckLemmas.{texts_refused, texts_whole}
use Rattle.planner_run.proofs.answer.text_outcome.Goals as goal

pub returns-in-Ok-clause-written : goal.returns-in-Ok-clause-written
returns-in-Ok-clause-written g c =
    let r = c.args.request.now in
    texts_whole r.command r.effort r.flow (length r.names) c.requires.text c.args.parts c.in-Ok.tables.items r.day c.ended_text.result
    c.in-Ok.ensures.all (rw (← c.from_vec.ensures) c.ended_text.ensures.written)

pub returns-in-Ok-clause-cause : goal.returns-in-Ok-clause-cause
returns-in-Ok-clause-cause g c =
    let r = c.args.request.now in
    texts_refused r.command r.effort r.flow (length r.names) c.requires.text c.args.parts c.in-Ok.tables.items r.day c.ended_text.result
    c.in-Ok.ensures.all (rw (← c.from_vec.ensures) c.ended_text.ensures.cause)
