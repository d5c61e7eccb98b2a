use Rattle.deadheads.proofs.TimeLemmas.{noted_within}
use Rattle.deadheads.proofs.moves.Deadheads.new.Goals as goal

pub invariant_of-result : goal.invariant_of-result
invariant_of-result c =
    noted_within c.dead_rows.result.now c.args.version c.args.area c.args.group c.in_ok-times.times
    c.dead_rows.ensures.times c.in_ok-times.ensures
