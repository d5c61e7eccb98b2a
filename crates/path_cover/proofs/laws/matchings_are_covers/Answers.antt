use Rattle.path_cover.proofs.Firsts.{matching_is_first}
use Rattle.path_cover.proofs.laws.matchings_are_covers.Goals as goal

pub returns : goal.returns
returns c = matching_is_first
