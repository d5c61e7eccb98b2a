use Rattle.cover_tests.proofs.Modest.{three-few, three-modest}
use Rattle.cover_tests.proofs.three_items.ThreeColumns.classes.Goals as goal

pub returns-clause-places : goal.returns-clause-places
returns-clause-places c = three-few

pub returns-clause-worths : goal.returns-clause-worths
returns-clause-worths c = three-modest
