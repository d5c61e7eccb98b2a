use Rattle.worker_price.specs.Work.{ArePricesFor}
use Rattle.plan_dive.proofs.diving.prices_away.Given as goal

abbrev pub invariant-loop-item : goal.invariant-loop-item
invariant-loop-item g l = ArePricesFor (g.C.Columns.problem l._problem) l.items
