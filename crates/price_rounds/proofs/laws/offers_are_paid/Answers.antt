use Rattle.price_rounds.proofs.Leasts.{kept_bound_is, kept_class_prices, kept_is_bound, kept_is_paid, kept_prices}
use Rattle.price_rounds.proofs.laws.offers_are_paid.Goals as goal

pub returns-clause-prices : goal.returns-clause-prices
returns-clause-prices g c = λ columns kept offer. kept_prices (g.C.Columns.problem columns) kept offer

pub returns-clause-class_prices : goal.returns-clause-class_prices
returns-clause-class_prices g c = λ columns kept offer. kept_class_prices (g.C.Columns.problem columns) kept offer

pub returns-clause-paid : goal.returns-clause-paid
returns-clause-paid g c = λ columns kept offer.
    kept_is_paid (g.C.Columns.problem columns) kept (c.least_values.ensures.lists columns) (c.least_is_paid.ensures.least columns) offer

pub returns-clause-offer : goal.returns-clause-offer
returns-clause-offer g c = λ columns kept offer. kept_bound_is (g.C.Columns.problem columns) kept offer

pub returns-clause-bound : goal.returns-clause-bound
returns-clause-bound g c = λ columns kept offer.
    kept_is_bound (g.C.Columns.problem columns) kept (c.least_values.ensures.lists columns) (c.least_is_paid.ensures.least columns)
    (c.weak_duality.ensures columns) offer
