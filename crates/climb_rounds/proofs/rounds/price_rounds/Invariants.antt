use Rattle.climb_rounds.specs.Searches.{IsSearch}
use Rattle.climb_rounds.specs.Walks.{IsWalk}
use Rattle.climb_rounds.proofs.rounds.price_rounds.Given as goal

abbrev pub invariant-loop-done : goal.invariant-loop-done
invariant-loop-done g l = record {
  search : IsSearch (g.P.Columns.problem l.problem) l.search;
  walk : IsWalk (g.P.Columns.problem l.problem) l.walk;
}
