use Rattle.label_cover.proofs.Fields.{mark-exact}
use Rattle.label_cover.proofs.making.make_cover.Goals as goal

pub least_cover-requires-clause-apart : goal.least_cover-requires-clause-apart
least_cover-requires-clause-apart c = mark-exact
