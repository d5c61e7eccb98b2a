use Rattle.std.proofs.Common.{◌≡◌, ◌++◌, drop}
use Rattle.week_check.specs.Duties.{rests_of}
use Rattle.week_check.proofs.rests.rests_of.Given as goal

-- the rests so far and those after the other duties are the whole
abbrev pub invariant-loop-place : goal.invariant-loop-place
invariant-loop-place l = record {
  rests : l.rests.items ++ rests_of (drop l.place l.turns) ≡ rests_of l.turns;
}
