use Rattle.std.proofs.Common.{◌≡◌, ap, ◌∙◌}
use Rattle.command_words.specs.declared.request.Request.{Request}
use Rattle.command_words.specs.MadeRequests.{makes}
use Rattle.planner_run.proofs.MadeRuns.{made_ending}
use Rattle.planner_run.proofs.Outcomes.{some_same}
use Rattle.planner_run.proofs.running.run.Goals as goal

pub returns-in-Ok-clause-input : goal.returns-in-Ok-clause-input
returns-in-Ok-clause-input g c = λ fault is. rw c.in-Ok.ensures.request (c.carry_out-status.ensures.input fault is)

pub returns-in-Ok-clause-day : goal.returns-in-Ok-clause-day
returns-in-Ok-clause-day g c = λ fault is. rw c.in-Ok.ensures.request (c.carry_out-status.ensures.day fault is)

pub returns-in-Ok-clause-no_plan : goal.returns-in-Ok-clause-no_plan
returns-in-Ok-clause-no_plan g c =
    λ side bound places is. rw c.in-Ok.ensures.request (c.carry_out-status.ensures.no_plan side bound places is)

pub returns-in-Ok-clause-left : goal.returns-in-Ok-clause-left
returns-in-Ok-clause-left g c =
    λ side item name partial is. rw c.in-Ok.ensures.request (c.carry_out-status.ensures.left side item name partial is)

pub returns-in-Ok-clause-old_plan : goal.returns-in-Ok-clause-old_plan
returns-in-Ok-clause-old_plan g c = λ reason is. rw c.in-Ok.ensures.request (c.carry_out-status.ensures.old_plan reason is)

pub returns-in-Ok-clause-refused : goal.returns-in-Ok-clause-refused
returns-in-Ok-clause-refused g c = λ status request asks.
    let same : c.in-Ok.request ≡ request = some_same _ c.in-Ok.request request c.in-Ok.ensures.request asks in
    rw (← same) (c.carry_out-status.ensures.refused status)

pub returns-in-Ok-clause-complete : goal.returns-in-Ok-clause-complete
returns-in-Ok-clause-complete g c = λ request asks.
    let same : c.in-Ok.request ≡ request = some_same _ c.in-Ok.request request c.in-Ok.ensures.request asks in
    rw (← same) c.carry_out-status.ensures.complete

pub returns-in-Ok-clause-only : goal.returns-in-Ok-clause-only
returns-in-Ok-clause-only g c = λ request end bytes ok asks.
    let same : c.in-Ok.request ≡ request = some_same _ c.in-Ok.request request c.in-Ok.ensures.request asks in
    rw (← same) (c.carry_out-status.ensures.only end bytes ok)

pub returns-in-Ok-clause-made : goal.returns-in-Ok-clause-made
returns-in-Ok-clause-made g c = λ request asks makes_one.
    let same : c.in-Ok.request ≡ request = some_same _ c.in-Ok.request request c.in-Ok.ensures.request asks in
    let called = c.carry_out-status.ensures in
    made_ending _ _ _ c.args.words.now c.in-Ok.request _ c.in-Ok.ensures.request (ap (λ (r : Request). makes r.command) same ∙ makes_one)
    called.right called.input called.day called.no_plan called.left called.old_plan called.read_fault called.ending
