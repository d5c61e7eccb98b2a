use Rattle.std.proofs.Common.{◌≡◌, ◌++◌, drop}
use Rattle.rest_labels.proofs.Marked.{of_class}
use Rattle.rest_labels.proofs.marks.listed_starts.Given as goal

-- what is there and what is left are all
abbrev pub invariant-loop-head : goal.invariant-loop-head
invariant-loop-head l = l.starts.items ++ of_class l.class (drop l.head-index l.heads) ≡ of_class l.class l.heads
