use Rattle.price_rounds.specs.Steps.{HasRounds}
use Rattle.price_rounds.proofs.passing.price_rounds.Given as goal

abbrev pub invariant-loop-done : goal.invariant-loop-done
invariant-loop-done g l = HasRounds (g.P.Columns.problem l.pricer) l.done l.progress
