use Rattle.path_cover.proofs.Firsts.{stuck_is_first, stuck_is_none}
use Rattle.path_cover.proofs.laws.stuck_trees.Goals as goal

pub returns : goal.returns
returns c = record { none = stuck_is_none; first = stuck_is_first }
