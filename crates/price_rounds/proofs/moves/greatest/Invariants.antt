use Rattle.std.proofs.Common.{◌≡◌, ◌≤ℤ◌, pos, drop}
use Rattle.std.specs.Int.{int_max}
use Rattle.price_rounds.specs.Rounds.{greatest_of}
use Rattle.price_rounds.proofs.moves.greatest.Given as goal

abbrev pub invariant-loop-price : goal.invariant-loop-price
invariant-loop-price l = record {
  value : int_max l.greatest (greatest_of (drop l.price-index l.prices)) ≡ greatest_of l.prices;
  low : pos 0 ≤ℤ l.greatest;
  high : l.greatest ≤ℤ pos 10000000000000;
}
