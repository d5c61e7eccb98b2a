use Rattle.std.proofs.Common.{◌≡◌, replicate, None}
use Rattle.worker_price.proofs.order.empty_slots.Given as goal

abbrev pub invariant-loop-made : goal.invariant-loop-made
invariant-loop-made l = l.slots ≡ replicate l._made None
