use Rattle.std.proofs.Common.{◌≡◌, ◌≤◌, ◌+◌, ◌*◌, drop}
use Rattle.umlauf_write.specs.Answers.{driving_of}
use Rattle.umlauf_write.proofs.duties.driving_of.Given as goal

-- the seconds so far and those of the items left are all
abbrev pub invariant-loop-item : goal.invariant-loop-item
invariant-loop-item l = record {
  made : l.seconds + driving_of l.pieces (drop l.item-index l.items) ≡ driving_of l.pieces l.items;
  few : l.seconds ≤ 345600 * l.item-index;
}
