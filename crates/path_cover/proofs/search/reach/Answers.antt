use Rattle.std.proofs.Common.{get_or, arith}
use Rattle.path_cover.proofs.Reaching.{fits_of}
use Rattle.path_cover.proofs.search.reach.Goals as goal

pub scan-requires-clause-feasible : goal.scan-requires-clause-feasible
scan-requires-clause-feasible g c v cost below arc =
    let n_is = c.nodes.ensures.value in
    fits_of cost (get_or c.args.falls.now.heads.items v 0) (get_or c.args.falls.now.tails.items c.args.x 0)
    (c.requires.feasible c.args.x v cost c.requires.row (omega arith) arc)
