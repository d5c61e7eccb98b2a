use Rattle.std.proofs.Common.{◌≡◌, ◌++◌, drop}
use Rattle.duty_rest.specs.Rest.{begun_of}
use Rattle.duty_rest.proofs.begun.begun_columns.Given as goal

-- what is there and what is left are all
abbrev pub invariant-loop-head : goal.invariant-loop-head
invariant-loop-head l = l.begun ++ begun_of (drop l.head-index l.heads) ≡ begun_of l.heads
