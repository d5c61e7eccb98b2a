use Rattle.cover_core.proofs.Best.{best_is_first_least, within_is_limited}
use Rattle.cover_core.proofs.laws.best_is_first_least.Goals as goal

pub returns-clause-best : goal.returns-clause-best
returns-clause-best g c = λ columns. best_is_first_least (g.C.Columns.problem columns) (g.met.C.Columns.listed columns)

pub returns-clause-limited : goal.returns-clause-limited
returns-clause-limited g c = λ columns. within_is_limited (g.C.Columns.problem columns) (g.met.C.Columns.listed columns)

pub returns-clause-fitting : goal.returns-clause-fitting
returns-clause-fitting g c = λ columns prices class group column f.
    let law = g.met.C.Columns.listed columns column.class column.items column.worth f.listed.1 in
    record { of_class = f.of_class; rises = law.1; items = law.2; some = law.0 }
