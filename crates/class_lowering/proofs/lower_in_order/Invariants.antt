use Rattle.std.proofs.Common.{◌≡◌, length, drop}
use Rattle.cover_core.specs.FirstLeast.{AllWithin}
use Rattle.class_lowering.specs.Lowering.{lowered_along}
use Rattle.class_lowering.proofs.lower_in_order.Given as goal

abbrev pub invariant-loop-place : goal.invariant-loop-place
invariant-loop-place l = record {
  len : length l.prices.items ≡ length l.initial.prices.items;
  moderate : AllWithin 10000000000000 l.prices.items;
  along : lowered_along l.pool l.asked (drop l.place-index l.place-items) l.prices.items
      ≡ lowered_along l.pool l.asked l.place-items l.initial.prices.items;
}
