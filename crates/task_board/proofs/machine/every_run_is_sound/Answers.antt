use Rattle.task_board.proofs.Runs.{start_sound, step_keeps, run_keeps}
use Rattle.task_board.proofs.Keeps.{known, known_drawn}
use Rattle.task_board.specs.Machine.{run, start}
use Rattle.task_board.proofs.machine.every_run_is_sound.Goals as goal

pub returns-clause-each : goal.returns-clause-each
returns-clause-each c = λ size before event sound. step_keeps size before event sound

pub returns-clause-kept : goal.returns-clause-kept
returns-clause-kept c = λ size events small. run_keeps size events (start size) (start_sound size small)

pub returns-clause-whole : goal.returns-clause-whole
returns-clause-whole c = λ size events desk v small at.
    let h = run size events (start size) in
    known size h.words h.views desk v (run_keeps size events (start size) (start_sound size small)) at

pub returns-clause-drawn : goal.returns-clause-drawn
returns-clause-drawn c = λ size events desk v x small at all.
    let h = run size events (start size) in
    known_drawn size h.words h.views desk v (run_keeps size events (start size) (start_sound size small)) at all x
