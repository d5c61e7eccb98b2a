use Rattle.cover_core.proofs.Counts.{has_few_columns, keeps_caps, count_duality, no_plan_above}
use Rattle.cover_core.proofs.laws.plan_sizes.Goals as goal

pub returns-clause-items : goal.returns-clause-items
returns-clause-items g c = λ columns. has_few_columns (g.C.Columns.problem columns) (g.met.C.Columns.listed columns)

pub returns-clause-caps : goal.returns-clause-caps
returns-clause-caps g c = λ columns. keeps_caps (g.C.Columns.problem columns)

pub returns-clause-count : goal.returns-clause-count
returns-clause-count g c = λ columns. count_duality (g.C.Columns.problem columns) (g.met.C.Columns.listed columns)

pub returns-clause-none : goal.returns-clause-none
returns-clause-none g c = λ columns. no_plan_above (g.C.Columns.problem columns) (g.met.C.Columns.listed columns)
