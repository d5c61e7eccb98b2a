use Rattle.offer_estimate.proofs.Ranges.{cap-get}
use Rattle.offer_estimate.proofs.guessing.cap_at.Goals as goal

pub returns-clause-few : goal.returns-clause-few
returns-clause-few c = cap-get c.args.caps.now c.args.class c.requires.inside c.requires.caps
