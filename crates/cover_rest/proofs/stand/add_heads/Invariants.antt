use Rattle.std.proofs.Common.{◌≡◌, ◌++◌, drop}
use Rattle.cover_rest.specs.Rest as spec
use Rattle.cover_rest.proofs.stand.add_heads.Given as goal

-- what is there and what is left are all
abbrev pub invariant-loop-head : goal.invariant-loop-head
invariant-loop-head l = l.bodies ++ spec.begun_lists (drop l.head-index l.heads) ≡ l.fn.bodies ++ spec.begun_lists l.heads
