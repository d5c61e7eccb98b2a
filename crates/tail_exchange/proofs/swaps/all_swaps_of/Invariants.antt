use Rattle.std.proofs.Common.{◌≡◌, ◌+◌, ◌-◌, ◌≤◌}
use Rattle.std.specs.Prelude.{flat_map}
use Rattle.std.specs.List.{range_with_len}
use Rattle.tail_exchange.specs.Exchange.{swaps_of}
use Rattle.tail_exchange.specs.Leasts.{least_from}
use Rattle.tail_exchange.proofs.swaps.all_swaps_of.Given as goal

abbrev pub invariant-loop-b : goal.invariant-loop-b
invariant-loop-b g l = record {
  low : l.a + 1 ≤ l.b;
  least : l.least ≡ least_from l.fn.best
      (flat_map (λ b. swaps_of (g.C.Columns.problem l.columns) l.plan l.a b) (range_with_len (l.a + 1) (l.b - (l.a + 1))));
}
