use Rattle.std.proofs.Common.{◌≡◌}
use Rattle.std.specs.Vec.Iter.{into_iter_items}
use Rattle.price_rounds.specs.Rounds.{pool_with}
use Rattle.price_rounds.specs.Steps.{AreReady}
use Rattle.price_rounds.proofs.moves.add_all.Given as goal

abbrev pub invariant-loop-column : goal.invariant-loop-column
invariant-loop-column g l = record {
  pool : pool_with l.pool (into_iter_items l.column-iterator) ≡ pool_with l.fn.pool l.fn.columns;
  ready : AreReady (g.C.Columns.problem l._columns) l.pool;
  rest : AreReady (g.C.Columns.problem l._columns) (into_iter_items l.column-iterator);
}
