use Rattle.climb_rounds.specs.Searches.{IsSearch}
use Rattle.climb_rounds.proofs.mending.mend.Given as goal

abbrev pub invariant-loop-turn : goal.invariant-loop-turn
invariant-loop-turn g l = IsSearch (g.P.Columns.problem l.problem) l.search
