use Rattle.climb_rounds.proofs.Lists.{have_items}
use Rattle.climb_rounds.proofs.rounds.lower_all.Goals as goal

pub lower_in_order-requires-clause-some : goal.lower_in_order-requires-clause-some
lower_in_order-requires-clause-some g c =
    let p = g.C.Columns.problem c.args.problem.now in
    have_items p c.args.stock.now.pool (g.met.C.Columns.listed c.args.problem.now) c.requires.stock.ready.are
