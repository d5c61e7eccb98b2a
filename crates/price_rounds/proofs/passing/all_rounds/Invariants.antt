use Rattle.price_rounds.specs.Steps.{HasLowered}
use Rattle.price_rounds.proofs.passing.all_rounds.Given as goal

abbrev pub invariant-loop-done : goal.invariant-loop-done
invariant-loop-done g l = HasLowered (g.P.Columns.problem l.pricer) l.effort.rounds l.done l.progress
