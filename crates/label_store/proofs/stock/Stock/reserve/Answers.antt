use Rattle.std.proofs.Common.{◌+◌, ◌++◌, subst, sym}
use Rattle.label_region.specs.Shelf.{Shelf}
use Rattle.label_store.specs.Stocks.{IsStocked}
use Rattle.label_store.proofs.Shown.{live-spare}
use Rattle.label_store.proofs.stock.Stock.reserve.Goals as goal

pub invariant_of-self : goal.invariant_of-self
invariant_of-self g c =
    let r = c.self.inside in
    let P : Shelf g.row.T.Denot → Type 0 = λ s. IsStocked s r.kept.items r.made.items in
    subst P (sym c.reserve.ensures.nothing_else)
    (record {
      live = live-spare r.region c.reserve.new.self.spare (r.kept.items ++ r.made.items) c.self.invariant.live;
      once =
          c.self.invariant.once;
    })
