use Rattle.input_files.proofs.LineLemmas.{part_failed, part_written}
use Rattle.input_files.proofs.lines.write_part.Goals as goal

pub returns-in-Ok : goal.returns-in-Ok
returns-in-Ok g c = λ old faults line rest. rw c.if-not-is_whole.false
    (λ told. part_written old _ _ faults _ _ line c.args.part.now rest told c.in-Ok.ensures.taken c.in-Ok.ensures.later)

pub returns-in-Err : goal.returns-in-Err
returns-in-Err g c = λ old faults line rest. rw c.if-not-is_whole.false
    (λ told. part_failed old _ _ faults _ _ line c.args.part.now rest told c.in-Err.ensures.front c.in-Err.ensures.fault)
