use Rattle.std.proofs.Common.{◌≡◌, length}
use Rattle.cover_core.specs.FirstLeast.{AllWithin}
use Rattle.round_tests.proofs.single_pricer.prices.Given as goal

abbrev pub invariant-loop-item : goal.invariant-loop-item
invariant-loop-item l = record {
  len : length l.list ≡ l.item;
  moderate : AllWithin 10000000000000 l.list;
}
