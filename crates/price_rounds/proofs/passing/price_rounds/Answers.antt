use Rattle.std.proofs.Common.{List, length, ap, ◌∙◌}
use Rattle.plan_core.specs.declared.Price.{Price}
use Rattle.worker_price.specs.Work.{ArePricesFor}
use Rattle.price_rounds.proofs.Prices.{starting-length}
use Rattle.price_rounds.proofs.passing.price_rounds.Goals as goal

pub first_round-requires-clause-prices : goal.first_round-requires-clause-prices
first_round-requires-clause-prices g c κs within =
    let p = g.P.Columns.problem c.args.pricer.now in
    let ready : ArePricesFor p c.in_ok-start.start.items =
    (ap (λ (l : List Price). length l) c.in_ok-start.ensures.start ∙ starting-length p, c.in_ok-start.ensures.moderate) in
    ready
