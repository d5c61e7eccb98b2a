use Rattle.std.proofs.Common.{◌+◌, ◌<◌, ◌++◌, List, ℕ, arith, ap, drop, length, subst, sym, take, ◌∙◌}
use Rattle.label_region.specs.Shelf.{IsLive}
use Rattle.label_store.specs.Stocks.{IsStocked, Stock, shown}
use Rattle.label_store.proofs.Shown.{live-at, live-right, out-kept, out-made, out-stocked, shown-length}
use Rattle.label_store.proofs.stock.Stock.take_out.Goals as goal

pub remove-id-requires : goal.remove-id-requires
remove-id-requires g c =
    let r = c.self.inside in
    let live = live-right {X = g.row.T.Denot} r.region r.kept.items r.made.items c.self.invariant.live in
    omega (arith, r.made.ok, shown-length r.region r.made.items live, ap (λ (s : Stock g.row.T.Denot). length s.made) c.self.view_is)

pub give_back-requires : goal.give_back-requires
give_back-requires g c =
    let r = c.self.inside in
    let live = live-right {X = g.row.T.Denot} r.region r.kept.items r.made.items c.self.invariant.live in
    let below : c.args.place < length r.made.items =
    omega (arith, shown-length r.region r.made.items live, ap (λ (s : Stock g.row.T.Denot). length s.made) c.self.view_is) in
    subst (λ (n : ℕ). IsLive r.region n) (sym c.remove-id.ensures.value)
    (live-at r.region r.made.items c.args.place c.remove-id.result live below)

pub invariant_of-self : goal.invariant_of-self
invariant_of-self g c =
    let r = c.self.inside in
    let live = live-right {X = g.row.T.Denot} r.region r.kept.items r.made.items c.self.invariant.live in
    let below : c.args.place < length r.made.items =
    omega (arith, shown-length r.region r.made.items live, ap (λ (s : Stock g.row.T.Denot). length s.made) c.self.view_is) in
    subst (λ (l : List ℕ). IsStocked {X = g.row.T.Denot} c.give_back.new.self r.kept.items l) (sym c.remove-id.ensures.by_index.2)
    (out-stocked r.region c.give_back.new.self r.kept.items r.made.items c.args.place c.remove-id.result c.self.invariant below
    c.remove-id.ensures.value c.give_back.ensures.others)

pub returns-clause-kept : goal.returns-clause-kept
returns-clause-kept g c =
    let r = c.self.inside in
    let live = live-right {X = g.row.T.Denot} r.region r.kept.items r.made.items c.self.invariant.live in
    let below : c.args.place < length r.made.items =
    omega (arith, shown-length r.region r.made.items live, ap (λ (s : Stock g.row.T.Denot). length s.made) c.self.view_is) in
    out-kept r.region c.give_back.new.self r.kept.items r.made.items c.args.place c.remove-id.result c.self.invariant below
    c.remove-id.ensures.value c.give_back.ensures.others
    ∙ ap (λ (s : Stock g.row.T.Denot). s.kept) c.self.view_is

pub returns-clause-made : goal.returns-clause-made
returns-clause-made g c =
    let r = c.self.inside in
    let live = live-right {X = g.row.T.Denot} r.region r.kept.items r.made.items c.self.invariant.live in
    let below : c.args.place < length r.made.items =
    omega (arith, shown-length r.region r.made.items live, ap (λ (s : Stock g.row.T.Denot). length s.made) c.self.view_is) in
    ap (λ (l : List ℕ). shown {X = g.row.T.Denot} c.give_back.new.self l) c.remove-id.ensures.by_index.2
    ∙ out-made r.region c.give_back.new.self r.kept.items r.made.items c.args.place c.remove-id.result c.self.invariant below
    c.remove-id.ensures.value c.give_back.ensures.others
    ∙ ap (λ (s : Stock g.row.T.Denot). take c.args.place s.made ++ drop (c.args.place + 1) s.made) c.self.view_is
