use Rattle.std.proofs.Common.{refl, arith}
use Rattle.path_cover.proofs.Earliest.{stuck_none}
use Rattle.path_cover.proofs.cover.place_row.Goals as goal

pub returns-clause-none : goal.returns-clause-none
returns-clause-none g c e lists cover =
    let n_is = c.nodes-n.ensures.value in
    stuck_none (g.A.Arcs.net c.args.arcs.now) (g.met.A.Arcs.rising c.args.arcs.now) c.place.new.falls
    c.place.new.placing _ (c.place.ensures.stuck e) refl (omega arith) lists cover
