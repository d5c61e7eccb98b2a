use Rattle.std.proofs.Common.{arith, ap, length}
use Rattle.label_store.specs.Stocks.{Stock}
use Rattle.label_store.proofs.Shown.{live-right, shown-length}
use Rattle.label_store.proofs.stock.Stock.made_count.Goals as goal

pub returns : goal.returns
returns g c =
    let r = c.self.inside in
    let live = live-right {X = g.row.T.Denot} r.region r.kept.items r.made.items c.self.invariant.live in
    omega (
      arith,
      c.len.ensures,
      r.made.ok,
      shown-length r.region r.made.items live,
      ap (λ (s : Stock g.row.T.Denot). length s.made) c.self.view_is,
    )
