use Rattle.price_rounds.proofs.Passes.{lowering_begins}
use Rattle.price_rounds.proofs.passing.all_rounds.Goals as goal

pub loop-done-init : goal.loop-done-init
loop-done-init g c = lowering_begins (g.P.Columns.problem c.args.pricer.now) c.args.effort.now.rounds c.in_ok-progress.progress
    c.in_ok-progress.ensures
