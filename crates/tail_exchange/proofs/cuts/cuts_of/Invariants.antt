use Rattle.std.proofs.Common.{◌≡◌, length}
use Rattle.std.specs.Prelude.{flat_map}
use Rattle.std.specs.List.{range_with_len}
use Rattle.tail_exchange.specs.Exchange.{cut_at}
use Rattle.tail_exchange.specs.Leasts.{least_from}
use Rattle.tail_exchange.proofs.cuts.cuts_of.Given as goal

abbrev pub invariant-loop-i : goal.invariant-loop-i
invariant-loop-i g l =
    l.least ≡ least_from l.fn.best
    (flat_map (λ i. flat_map (λ k. cut_at (g.C.Columns.problem l.columns) l.plan l.a i k)
    (range_with_len 0 (length (g.C.Columns.problem l.columns).caps))) (range_with_len 0 l.i))
