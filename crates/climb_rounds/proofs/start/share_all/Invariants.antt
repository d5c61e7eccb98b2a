use Rattle.worker_price.specs.Work.{ArePricesFor}
use Rattle.climb_rounds.proofs.start.share_all.Given as goal

abbrev pub invariant-loop-column : goal.invariant-loop-column
invariant-loop-column g l = ArePricesFor (g.C.Columns.problem l.problem) l.prices
