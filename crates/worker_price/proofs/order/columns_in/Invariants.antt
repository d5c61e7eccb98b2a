use Rattle.std.proofs.Common.{◌≡◌, ◌++◌, filter_map}
use Rattle.std.specs.Vec.Iter.{into_iter_items}
use Rattle.worker_price.proofs.order.columns_in.Given as goal

abbrev pub invariant-loop-slot : goal.invariant-loop-slot
invariant-loop-slot l = l.columns ++ filter_map (λ slot. slot) (into_iter_items l.slot-iterator) ≡ filter_map (λ slot. slot) l.fn.slots
