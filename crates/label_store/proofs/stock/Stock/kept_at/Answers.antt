use Rattle.std.proofs.Common.{◌≡◌, ◌<◌, ℕ, Some, arith, ap, length, slice_get, subst, sym, ◌∙◌}
use Rattle.std.proofs.lemmas.Option.{get_or_from_slice_get}
use Rattle.label_region.specs.Shelf.{IsLive, label_at}
use Rattle.label_store.specs.Stocks.{Stock}
use Rattle.label_store.proofs.Shown.{live-left, live-at, shown-at, shown-length}
use Rattle.label_store.proofs.stock.Stock.kept_at.Goals as goal

pub index-requires : goal.index-requires
index-requires g c =
    let r = c.self.inside in
    let live = live-left {X = g.row.T.Denot} r.region r.kept.items r.made.items c.self.invariant.live in
    omega (arith, r.kept.ok, shown-length r.region r.kept.items live, ap (λ (s : Stock g.row.T.Denot). length s.kept) c.self.view_is)

pub get-requires : goal.get-requires
get-requires g c =
    let r = c.self.inside in
    let live = live-left {X = g.row.T.Denot} r.region r.kept.items r.made.items c.self.invariant.live in
    let below : c.args.place < length r.kept.items =
    omega (arith, shown-length r.region r.kept.items live, ap (λ (s : Stock g.row.T.Denot). length s.kept) c.self.view_is) in
    subst (λ (n : ℕ). IsLive r.region n) (sym c.index.ensures) (live-at r.region r.kept.items c.args.place c.index.result.now live below)

pub returns : goal.returns
returns g c =
    let r = c.self.inside in
    let live = live-left {X = g.row.T.Denot} r.region r.kept.items r.made.items c.self.invariant.live in
    let below : c.args.place < length r.kept.items =
    omega (arith, shown-length r.region r.kept.items live, ap (λ (s : Stock g.row.T.Denot). length s.kept) c.self.view_is) in
    let is : slice_get c.args.self.now.kept c.args.place ≡ Some c.get.result.now =
    ap (λ (s : Stock g.row.T.Denot). slice_get s.kept c.args.place) (sym c.self.view_is)
    ∙ shown-at r.region r.kept.items c.args.place c.index.result.now live below
    ∙ ap (label_at r.region) (sym c.index.ensures)
    ∙ c.get.ensures in
    sym (get_or_from_slice_get c.args.self.now.kept c.args.place c.get.result.now c.get.result.now is)
