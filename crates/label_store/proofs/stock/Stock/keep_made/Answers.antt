use Rattle.std.proofs.Common.{◌+◌, ◌++◌, List, ℕ, ap, ◌∙◌}
use Rattle.label_store.specs.Stocks.{Stock, shown}
use Rattle.label_store.proofs.Shown.{shown-both}
use Rattle.label_store.proofs.stock.Stock.keep_made.Goals as goal

pub returns-clause-kept : goal.returns-clause-kept
returns-clause-kept g c =
    let r = c.self.inside in
    ap (λ (l : List ℕ). shown {X = g.row.T.Denot} r.region l) c.in_ok-append.ensures.items
    ∙ shown-both r.region r.kept.items r.made.items
    ∙ ap (λ (s : Stock g.row.T.Denot). s.kept ++ s.made) c.self.view_is
