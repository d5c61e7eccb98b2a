use Rattle.std.proofs.Common.{◌≡◌, ◌≤◌, ◌+◌, ◌*◌, pos, neg_ℤ, ◌+ℤ◌, ◌*ℤ◌, ◌≤ℤ◌, length}
use Rattle.std.specs.Prelude.{int_div}
use Rattle.offer_estimate.specs.Estimates.{scaled_leasts}
use Rattle.offer_estimate.proofs.guessing.guess.Given as goal

abbrev pub invariant-loop-class : goal.invariant-loop-class
invariant-loop-class l = record {
  order : l.class ≤ length l.caps;
  is : l.guess ≡ int_div (l.sum *ℤ l.part) l.whole +ℤ scaled_leasts l.part l.whole l.least l.worths l.caps l.class;
  low : neg_ℤ (pos (1000000000000000000000000000000 + 10000000000000000000000000000000000 * l.class)) ≤ℤ l.guess;
  high : l.guess ≤ℤ pos 1000000000000000000000000000000;
}
