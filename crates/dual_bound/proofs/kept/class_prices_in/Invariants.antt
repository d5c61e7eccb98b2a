use Rattle.std.proofs.Common.{◌≡◌, ◌≤◌, take, length}
use Rattle.cover_core.specs.FirstLeast.{class_prices_of}
use Rattle.dual_bound.proofs.kept.class_prices_in.Given as goal

abbrev pub invariant-loop-value : goal.invariant-loop-value
invariant-loop-value l = record {
  order : l.value-index ≤ length l.least;
  new : l.new ≡ class_prices_of (take l.value-index l.least);
}
