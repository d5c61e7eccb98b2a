use Rattle.std.proofs.Common.{◌≡◌, drop}
use Rattle.worker_price.specs.Work.{ArePricesFor}
use Rattle.price_rounds.specs.Rounds.{lowered_in_order}
use Rattle.price_rounds.proofs.moves.lower_all.Given as goal

abbrev pub invariant-loop-column : goal.invariant-loop-column
invariant-loop-column g l = record {
  lowered : lowered_in_order (drop l.column-index l.columns) l.prices.items ≡ lowered_in_order l.columns l.initial.prices.items;
  ready : ArePricesFor (g.C.Columns.problem l._columns) l.prices.items;
}
