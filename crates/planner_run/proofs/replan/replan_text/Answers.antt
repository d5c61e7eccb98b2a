use Rattle.cover_plan.specs.Endings.{numbers_of}
use Rattle.planner_run.proofs.ReplanLemmas.{model_to_replan, replan_left, replan_written}
use Rattle.planner_run.proofs.replan.replan_text.Goals as goal

pub returns-in-Ok-clause-written : goal.returns-in-Ok-clause-written
returns-in-Ok-clause-written g c =
    let made = c.in-Ok.ensures in
    replan_written (numbers_of c.args.effort.now) c.args.moment c.args.tables c.args.old.now c.args.day c.in-Ok.ready.model
    c.in-Ok.ready.rec_frt c.text_over.result made.model made.found
    c.text_over.ensures.written

pub returns-in-Ok-clause-cause : goal.returns-in-Ok-clause-cause
returns-in-Ok-clause-cause g c =
    replan_left (numbers_of c.args.effort.now) c.args.moment c.args.tables c.args.old.now c.args.day c.in-Ok.ready.model c.text_over.result
    c.in-Ok.ensures.model c.text_over.ensures.cause

pub returns-in-Err-clause-cause : goal.returns-in-Err-clause-cause
returns-in-Err-clause-cause g c =
    model_to_replan (numbers_of c.args.effort.now) c.args.moment c.args.tables c.args.old.now c.args.day
    c.in-Err.status c.in-Err.ensures.cause
