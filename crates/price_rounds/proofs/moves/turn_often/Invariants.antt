use Rattle.std.proofs.Common.{◌≡◌}
use Rattle.worker_price.specs.Work.{ArePricesFor}
use Rattle.price_rounds.specs.Rounds.{turned_often}
use Rattle.price_rounds.proofs.moves.turn_often.Given as goal

abbrev pub invariant-loop-turn : goal.invariant-loop-turn
invariant-loop-turn g l = record {
  turned : l.prices.items ≡ turned_often l._turn l.pool (g.C.Columns.problem l.columns).caps l.size l.initial.prices.items;
  ready : ArePricesFor (g.C.Columns.problem l.columns) l.prices.items;
}
