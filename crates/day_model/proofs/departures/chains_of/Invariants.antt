use Rattle.std.proofs.Common.{◌≡◌, ◌≤◌, length}
use Rattle.day_model.specs.Begins.{AreHeads, AreNexts}
use Rattle.day_model.proofs.departures.chains_of.Given as goal

-- the places from here on have their next ones, and the first of them with each number is kept
abbrev pub invariant-loop-place : goal.invariant-loop-place
invariant-loop-place l = record {
  within : l.place ≤ length l.numbers;
  room : length l.heads.items ≡ l.points;
  heads : AreHeads l.numbers l.heads.items l.place;
  nexts : AreNexts l.numbers l.nexts.items l.place;
}

abbrev pub decreases-loop-place : goal.decreases-loop-place
decreases-loop-place l = l.place
