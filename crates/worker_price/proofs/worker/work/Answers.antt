use Rattle.std.proofs.Common.{ap, ◌∙◌, Result, Ok, Err, IfErr}
use Rattle.task_board.specs.declared.sheet.Sheet.{Sheet}
use Rattle.worker_price.proofs.Working.{worked_more, fewer_left, sound_push, stopped_after}
use Rattle.worker_price.proofs.worker.work.Goals as goal

pub loop-task-smaller : goal.loop-task-smaller
loop-task-smaller g c =
    let s = c.in-Some.ensures.some in let f = c.in-Ok.ensures.found in
    fewer_left _ c.in-Some.task _ _ _ _ _ s.1 s.3 s.2 f.2

pub loop-task-preserved : goal.loop-task-preserved
loop-task-preserved g c =
    let s = c.in-Some.ensures.some in let f = c.in-Ok.ensures.found in
    let w = worked_more _ _ _ _ _ _ _ _ _ _ _ c.loop-task.invariant.worked s.2 c.in-Ok.ensures.task f.1 f.2 in
    record {
      desk = c.price_one.ensures.desk;
      over = ap (λ (v : Sheet). v.over) f.2 ∙ (ap (λ (v : Sheet). v.over) s.2 ∙ c.loop-task.invariant.over);
      worked = rw c.in_ok-push.ensures.items w;
      sound = rw c.in_ok-push.ensures.items
          (sound_push (g.P.Columns.problem c.args.pricer.now) c.args.prices.now.items c.loop-task.found.items c.in-Ok.one
          c.loop-task.invariant.sound c.in-Ok.ensures.sound);
    }

-- a fact that holds, holds of an error
of_error : {T E : Type 0} (P : Type 0) (r : Result T E) → P → IfErr r (λ _. P)
of_error P (Ok x) h = tt
of_error P (Err e) h = h

pub returns-in_err-push-clause-memory : goal.returns-in_err-push-clause-memory
returns-in_err-push-clause-memory g c =
    let s = c.in-Some.ensures.some in let f = c.in-Ok.ensures.found in
    let w = worked_more _ _ _ _ _ _ _ _ _ _ _ c.loop-task.invariant.worked s.2 c.in-Ok.ensures.task f.1 f.2 in
    of_error _ c.from_residual.result (stopped_after (g.P.Columns.problem c.args.pricer.now) c.args.prices.now.items _ _ _ w)
