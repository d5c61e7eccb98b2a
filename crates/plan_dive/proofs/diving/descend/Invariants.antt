use Rattle.worker_price.specs.Work.{ArePricesFor}
use Rattle.plan_dive.specs.Descents.{IsDescent}
use Rattle.plan_dive.specs.Grounds.{IsStock}
use Rattle.plan_dive.proofs.diving.descend.Given as goal

-- A dive keeps only that what it has is of the problem: a price for each item, a stock of columns and links, and fixed columns.
-- That the fixed ones make a plan need not be kept, whichever prices and counts chose them: they become the pool of a rounding,
-- which takes of any columns what fits and places the rest, so that its answer is a plan or an item that has no place.
abbrev pub invariant-loop-step : goal.invariant-loop-step
invariant-loop-step g l = record {
  prices : ArePricesFor (g.P.Columns.problem l.problem) l.prices.items;
  stock : IsStock (g.P.Columns.problem l.problem) l.stock;
  descent : IsDescent (g.P.Columns.problem l.problem) l.descent;
}
