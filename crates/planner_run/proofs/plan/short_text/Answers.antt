use Rattle.std.proofs.lemmas.Result.{err_from_is_err_and}
use Rattle.plan_command.specs.Planning.{asked_of}
use Rattle.planner_run.proofs.PlanLemmas.{model_to_plan, unplanned}
use Rattle.planner_run.proofs.plan.short_text.Goals as goal

pub returns-in_err-ready-clause-cause : goal.returns-in_err-ready-clause-cause
returns-in_err-ready-clause-cause g c =
    let p = err_from_is_err_and c.from_residual.result c.from_residual.ensures.1 in
    rw (p.1, p.2) (model_to_plan (asked_of c.args.method.now) c.args.tables c.args.day c.in_err-ready.field-0.0
    c.in_err-ready.ensures.cause)

pub returns-in_err-short_text-clause-cause : goal.returns-in_err-short_text-clause-cause
returns-in_err-short_text-clause-cause g c =
    let p = err_from_is_err_and c.from_residual-in_err-short_text.result c.from_residual-in_err-short_text.ensures.1 in
    rw p.1 (unplanned (asked_of c.args.method.now) c.args.tables c.args.day c.in_ok-ready.ready.model p.0 c.in_ok-ready.ensures.model
    c.in_err-short_text.field-0.0 c.in_err-short_text.ensures.cause p.2)

pub returns-clause-written : goal.returns-clause-written
returns-clause-written g c =
    let ready = c.in_ok-ready in
    record { facts = ready.ready.model; model = ready.ensures.model; plan = c.in_ok-short_text.ensures.written }
