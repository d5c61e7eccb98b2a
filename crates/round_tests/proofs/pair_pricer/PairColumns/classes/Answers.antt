use Rattle.std.proofs.Common.{rules}
use Rattle.round_tests.proofs.Modest.{pair-few, pair-modest}
use Rattle.round_tests.proofs.pair_pricer.PairColumns.classes.Goals as goal

pub returns-clause-places : goal.returns-clause-places
returns-clause-places c = pair-few c.args.self.now.alone c.args.self.now.both c.args.self.now.places (search rules)

pub returns-clause-worths : goal.returns-clause-worths
returns-clause-worths c = pair-modest c.args.self.now.alone c.args.self.now.both c.args.self.now.places (search rules) (search rules)
