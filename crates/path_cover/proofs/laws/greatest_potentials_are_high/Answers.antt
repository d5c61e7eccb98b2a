use Rattle.path_cover.proofs.Firsts.{greatest_are_high}
use Rattle.path_cover.proofs.laws.greatest_potentials_are_high.Goals as goal

pub returns : goal.returns
returns c = greatest_are_high
