use Rattle.cover_master.specs.Method.{start_price}
use Rattle.cover_master.proofs.Rules.{prices_from-is}
use Rattle.cover_master.proofs.start.start_prices.Goals as goal

pub returns-clause-start : goal.returns-clause-start
returns-clause-start g c =
    let p = g.C.Columns.problem c.args.columns.now in
    prices_from-is c.in_ok-items.items p.items (start_price p) c.in_ok-items.ensures.len c.in_ok-items.ensures.start
