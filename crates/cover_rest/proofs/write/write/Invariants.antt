use Rattle.std.proofs.Common.{◌≡◌, ◌++◌, drop}
use Rattle.cover_rest.specs.Rest as spec
use Rattle.cover_rest.proofs.write.write.Given as goal

-- what is written and what is left are all
abbrev pub invariant-loop-item : goal.invariant-loop-item
invariant-loop-item l = l.items.items ++ spec.written l.bodies (drop l.item-index l.list) ≡ l.fn.items.items ++ spec.written l.bodies l.list
