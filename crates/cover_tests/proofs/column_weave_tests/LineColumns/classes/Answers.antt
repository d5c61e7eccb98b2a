use Rattle.cover_tests.proofs.Modest.{line-few, line-modest}
use Rattle.cover_tests.proofs.column_weave_tests.LineColumns.classes.Goals as goal

pub returns-clause-places : goal.returns-clause-places
returns-clause-places c = line-few

pub returns-clause-worths : goal.returns-clause-worths
returns-clause-worths c = line-modest
