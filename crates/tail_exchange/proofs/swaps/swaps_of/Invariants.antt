use Rattle.std.proofs.Common.{◌≡◌, ◌+◌, length}
use Rattle.std.specs.Prelude.{flat_map}
use Rattle.std.specs.List.{range_with_len}
use Rattle.cover_core.specs.Parts.{column_at}
use Rattle.tail_exchange.specs.Exchange.{swap_at}
use Rattle.tail_exchange.specs.Leasts.{least_from}
use Rattle.tail_exchange.proofs.swaps.swaps_of.Given as goal

abbrev pub invariant-loop-i : goal.invariant-loop-i
invariant-loop-i g l =
    l.least ≡ least_from l.fn.best
    (flat_map (λ i. flat_map (λ j. swap_at (g.C.Columns.problem l.columns) l.plan l.a l.b i j)
    (range_with_len 0 (length (column_at l.plan l.b).items + 1))) (range_with_len 0 l.i))
