use Rattle.cover_rest.proofs.Whole.{stand-for-all}
use Rattle.cover_rest.proofs.laws.bodies_stand_for_all.Goals as goal

pub returns : goal.returns
returns c = stand-for-all
