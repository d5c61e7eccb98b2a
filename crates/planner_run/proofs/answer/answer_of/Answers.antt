use Rattle.std.proofs.Common.{◌≡◌, Err, MatchResult, ap, refl}
use Rattle.input_files.specs.Inputs.{SpellTables, held_under}
use Rattle.input_files.proofs.FileLemmas.{err_same}
use Rattle.input_files.proofs.InputLemmas.{if_told, of_told}
use Rattle.planner_run.specs.Run.{IsAnswer, IsUnread, stage_of}
use Rattle.input_files.specs.Inputs.{IsUnread as IsUnreadFile}
use Rattle.planner_run.specs.Tasks.{task_of}
use Rattle.planner_run.proofs.AnswerLemmas.{read_cause, read_complete, read_refused, read_written, still_status, unread_answer, unread_refused, unread_status}
use Rattle.planner_run.proofs.CheckLemmas.{ends_well}
use Rattle.planner_run.proofs.answer.answer_of.Goals as goal

pub returns-in-Ok-clause-written : goal.returns-in-Ok-clause-written
returns-in-Ok-clause-written g c =
    read_written (task_of c.args.request.now) (g.F.Files.held c.args.files.now) c.args.names.now c.in-Ok.parts
    c.args.request.now.day c.outcome_of.result
    (rw c.requires.stage at c.in-Ok.ensures.found) c.outcome_of.ensures.written

pub returns-in-Ok-clause-ending : goal.returns-in-Ok-clause-ending
returns-in-Ok-clause-ending g c =
    ends_well (task_of c.args.request.now) c.in-Ok.parts c.args.request.now.day c.outcome_of.result c.outcome_of.ensures.written

pub returns-in-Ok-clause-cause : goal.returns-in-Ok-clause-cause
returns-in-Ok-clause-cause g c =
    read_cause (task_of c.args.request.now) (g.F.Files.held c.args.files.now) c.args.names.now c.in-Ok.parts
    c.args.request.now.day _ c.outcome_of.result
    (rw c.requires.stage at c.in-Ok.ensures.found) c.outcome_of.ensures.cause

pub returns-in-Ok-clause-refused : goal.returns-in-Ok-clause-refused
returns-in-Ok-clause-refused g c = λ status settled.
    read_refused (task_of c.args.request.now) (g.F.Files.held c.args.files.now) c.args.names.now c.in-Ok.parts c.args.request.now.day
    c.outcome_of.result status settled
    (rw c.requires.stage at c.in-Ok.ensures.only) (rw c.requires.stage at c.in-Ok.ensures.exact) c.outcome_of.ensures.written
    c.outcome_of.ensures.cause

pub returns-in-Ok-clause-complete : goal.returns-in-Ok-clause-complete
returns-in-Ok-clause-complete g c = λ end bytes fixed.
    let told = held_under (g.F.Files.held c.args.files.now) c.args.names.now in
    let task = task_of c.args.request.now in
    if_told told (λ contents. IsAnswer task contents c.args.request.now.day end bytes →
    MatchResult c.outcome_of.result (λ x. Unit {0}) IsUnread) (λ contents e answer.
    read_complete task fixed contents c.in-Ok.parts c.args.request.now.day c.outcome_of.result end bytes
    (λ others. of_told told (λ contents. SpellTables (stage_of task) contents others → c.in-Ok.parts ≡ others) contents e
    ((rw c.requires.stage at c.in-Ok.ensures.only) others))
    c.outcome_of.ensures.cause answer)

pub returns-in-Err-clause-cause : goal.returns-in-Err-clause-cause
returns-in-Err-clause-cause g c =
    rw c.file_status.ensures
    (unread_answer (task_of c.args.request.now) (g.F.Files.held c.args.files.now) c.args.names.now c.args.request.now.day _ c.in-Err.fault
    (rw c.requires.stage at c.in-Err.ensures.cause))

pub returns-in-Err-clause-refused : goal.returns-in-Err-clause-refused
returns-in-Err-clause-refused g c = λ status settled.
    rw c.file_status.ensures
    (unread_refused (task_of c.args.request.now) (g.F.Files.held c.args.files.now) c.args.names.now
    c.args.request.now.day c.in-Err.fault status
    (rw c.requires.stage at c.in-Err.ensures.only) (rw c.requires.stage at c.in-Err.ensures.exact))

pub returns-in-Err-clause-complete : goal.returns-in-Err-clause-complete
returns-in-Err-clause-complete g c = λ end bytes fixed.
    let told = held_under (g.F.Files.held c.args.files.now) c.args.names.now in
    let task = task_of c.args.request.now in
    if_told told (λ contents. IsAnswer task contents c.args.request.now.day end bytes → IsUnread c.file_status.result) (λ contents e answer.
    rw c.file_status.ensures (unread_status c.in-Err.fault
    (of_told told (λ contents. SpellTables (stage_of task) contents answer.parts → IsUnreadFile c.in-Err.fault) contents e
    ((rw c.requires.stage at c.in-Err.ensures.only) answer.parts) answer.spelled)))

pub returns-in-Ok-clause-still : goal.returns-in-Ok-clause-still
returns-in-Ok-clause-still g c = λ none other. c.in-Ok.ensures.still (λ file bad. cc) other

pub returns-in-Err-clause-still : goal.returns-in-Err-clause-still
returns-in-Err-clause-still g c =
    λ none other. c.in-Err.ensures.still
    (λ file bad. none file (ap (λ s. Err s)
    (still_status c.in-Err.fault file (err_same _ _ _ refl bad) c.file_status.result c.file_status.ensures))) other
