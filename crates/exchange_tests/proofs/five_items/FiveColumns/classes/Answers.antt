use Rattle.std.proofs.Common.{rules}
use Rattle.exchange_tests.proofs.Modest.{five-few, five-modest}
use Rattle.exchange_tests.proofs.five_items.FiveColumns.classes.Goals as goal

pub returns-clause-places : goal.returns-clause-places
returns-clause-places c = five-few c.args.self.now.places c.args.self.now.bar (search rules)

pub returns-clause-worths : goal.returns-clause-worths
returns-clause-worths c = five-modest c.args.self.now.places c.args.self.now.bar
