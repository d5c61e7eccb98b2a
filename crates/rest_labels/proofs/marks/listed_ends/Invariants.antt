use Rattle.std.proofs.Common.{◌≡◌, ◌++◌, drop}
use Rattle.rest_labels.specs.Marks.{ends}
use Rattle.rest_labels.proofs.marks.listed_ends.Given as goal

-- what is there and what is left are all
abbrev pub invariant-loop-head : goal.invariant-loop-head
invariant-loop-head l = l.ended.items ++ ends (drop l.head-index l.heads) ≡ ends l.heads
