use Rattle.std.proofs.Common.{◌≡◌, ◌≤◌, take}
use Rattle.week_check.specs.Duties.{reduced_in}
use Rattle.week_check.proofs.rests.reduced_in.Given as goal

-- the reduced rests so far since the last weekly rest
abbrev pub invariant-loop-rest : goal.invariant-loop-rest
invariant-loop-rest l = record {
  count : l.count ≡ reduced_in (take l.rest-index l.rests);
  few : l.count ≤ l.rest-index;
}
