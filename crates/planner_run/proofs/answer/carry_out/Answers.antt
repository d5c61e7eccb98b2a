use Rattle.std.proofs.Common.{◌≡◌, inr, refl}
use Rattle.input_files.specs.Inputs.{held_under}
use Rattle.planner_run.specs.Run.{IsAnswer, IsRefusal, told_for}
use Rattle.planner_run.specs.Tasks.{task_of}
use Rattle.input_files.proofs.FileLemmas.{err_same}
use Rattle.input_files.proofs.InputLemmas.{if_told, of_told}
use Rattle.planner_run.proofs.CheckLemmas.{is_done_so}
use Rattle.planner_run.proofs.OneText.{one_answer, same_taken}
use Rattle.planner_run.proofs.RunLemmas.{called_for, complete_run, refused_run}
use Rattle.planner_run.proofs.answer.carry_out.Goals as goal

pub write_outcome-requires : goal.write_outcome-requires
write_outcome-requires g c = is_done_so (task_of c.args.request.now) c.in-Ok.outcome.ending c.in-Ok.ensures.ending

pub returns-in-Ok-clause-refused : goal.returns-in-Ok-clause-refused
returns-in-Ok-clause-refused g c = λ status settled some none.
    absurd (called_for (told_for (g.F.Files.held c.args.files.now) c.args.request.now.names status)
    (λ contents. IsRefusal (task_of c.args.request.now) contents c.args.request.now.day status) ⊥ some
    (c.in-Ok.ensures.refused status settled))

pub returns-in-Err-clause-refused : goal.returns-in-Err-clause-refused
returns-in-Err-clause-refused g c = λ status settled some none.
    refused_run (task_of c.args.request.now) (g.F.Files.held c.args.files.now) c.args.request.now.names
    c.args.request.now.day _ _ c.in-Err.status status (c.in-Err.ensures.refused status settled) c.in-Err.ensures.cause some none

pub returns-in-Err-clause-complete : goal.returns-in-Err-clause-complete
returns-in-Err-clause-complete g c = λ fixed some none quiet.
    inr (complete_run (task_of c.args.request.now) (g.F.Files.held c.args.files.now) c.args.request.now.names
    c.args.request.now.day _ _ c.in-Err.status (λ end bytes. c.in-Err.ensures.complete end bytes fixed) c.in-Err.ensures.cause some none)

pub returns-in-Ok-clause-only : goal.returns-in-Ok-clause-only
returns-in-Ok-clause-only g c = λ end bytes ok fixed text.
    let task = task_of c.args.request.now in
    let day = c.args.request.now.day in
    let made = c.in-Ok.outcome in
    if_told (held_under (g.F.Files.held c.args.files.now) c.args.request.now.names) _ (λ contents told answer.
    let first = of_told (held_under (g.F.Files.held c.args.files.now) c.args.request.now.names)
    (λ contents. IsAnswer task contents day made.ending made.text) contents told c.in-Ok.ensures.written in
    let same : made.text ≡ bytes = one_answer task fixed text contents day made.ending end made.text bytes first answer in
    same_taken _ _ _ _ made.text bytes made.ending c.write_outcome.result same c.write_outcome.ensures.written (rw ok refl))

pub returns-in-Ok-clause-still : goal.returns-in-Ok-clause-still
returns-in-Ok-clause-still g c = λ none other. c.in-Ok.ensures.still (λ file bad. cc) other

pub returns-in-Err-clause-still : goal.returns-in-Err-clause-still
returns-in-Err-clause-still g c = λ none other. c.in-Err.ensures.still (λ file bad. none file (err_same _ _ _ refl bad)) other
