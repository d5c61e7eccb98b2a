use Rattle.label_tests.proofs.Modest.{singles-few, singles-modest}
use Rattle.label_tests.proofs.singles.SinglesColumns.classes.Goals as goal

pub returns-clause-places : goal.returns-clause-places
returns-clause-places c = singles-few c.args.self.now.count

pub returns-clause-worths : goal.returns-clause-worths
returns-clause-worths c = singles-modest c.args.self.now.count
