use Rattle.planner_run.proofs.ModelLemmas.{tables_refused}
use Rattle.planner_run.proofs.PlanLemmas.{day_refused_answer, day_written}
use Rattle.planner_run.proofs.day.day_text.Goals as goal

pub returns-in-Ok-clause-written : goal.returns-in-Ok-clause-written
returns-in-Ok-clause-written c =
    day_written c.args.tables.now c.in-Ok.net c.args.day c.text_in.result c.in-Ok.ensures.faultless
    c.in-Ok.ensures.net c.text_in.ensures.written

pub returns-in-Ok-clause-cause : goal.returns-in-Ok-clause-cause
returns-in-Ok-clause-cause c =
    day_refused_answer c.args.tables.now c.in-Ok.net c.args.day c.text_in.result c.in-Ok.ensures.faultless
    c.in-Ok.ensures.net c.text_in.ensures.cause

pub returns-in-Err-clause-cause : goal.returns-in-Err-clause-cause
returns-in-Err-clause-cause c = tables_refused c.args.tables.now c.args.day c.in-Err.status c.in-Err.ensures.cause
