use Rattle.worker_price.proofs.Runs.{least_of_lists}
use Rattle.worker_price.proofs.Bounds.{least_is_bounded}
use Rattle.worker_price.proofs.laws.least_values.Goals as goal

pub returns-clause-lists : goal.returns-clause-lists
returns-clause-lists g c =
    λ columns. least_of_lists (g.C.Columns.problem columns) (g.met.C.Columns.listed columns) (c.best_is_first_least.ensures.best columns)

pub returns-clause-bound : goal.returns-clause-bound
returns-clause-bound g c =
    λ columns. least_is_bounded (g.C.Columns.problem columns) (c.best_is_first_least.ensures.best columns)
    (c.best_is_first_least.ensures.fitting columns)
