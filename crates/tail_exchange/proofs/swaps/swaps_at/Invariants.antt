use Rattle.std.proofs.Common.{◌≡◌}
use Rattle.std.specs.Prelude.{flat_map}
use Rattle.std.specs.List.{range_with_len}
use Rattle.tail_exchange.specs.Exchange.{swap_at}
use Rattle.tail_exchange.specs.Leasts.{least_from}
use Rattle.tail_exchange.proofs.swaps.swaps_at.Given as goal

abbrev pub invariant-loop-j : goal.invariant-loop-j
invariant-loop-j g l = l.least
    ≡ least_from l.fn.best (flat_map (λ j. swap_at (g.C.Columns.problem l.columns) l.plan l.a l.b l.i j) (range_with_len 0 l.j))
