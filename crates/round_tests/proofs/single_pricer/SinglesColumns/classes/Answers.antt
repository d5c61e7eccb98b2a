use Rattle.round_tests.proofs.Modest.{singles_few, singles_modest}
use Rattle.round_tests.proofs.single_pricer.SinglesColumns.classes.Goals as goal

pub returns-clause-places : goal.returns-clause-places
returns-clause-places c = singles_few c.args.self.now.items

pub returns-clause-worths : goal.returns-clause-worths
returns-clause-worths c = singles_modest c.args.self.now.items
