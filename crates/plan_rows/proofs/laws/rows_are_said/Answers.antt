use Rattle.plan_rows.proofs.RowLemmas.{all_said}
use Rattle.plan_rows.proofs.laws.rows_are_said.Goals as goal

pub returns-clause-legs : goal.returns-clause-legs
returns-clause-legs c = all_said

pub returns-clause-duties : goal.returns-clause-duties
returns-clause-duties c = all_said

pub returns-clause-pieces : goal.returns-clause-pieces
returns-clause-pieces c = all_said
