use Rattle.std.proofs.Common.{◌≡◌, ◌++◌, drop, map}
use Rattle.plan_read.specs.Gathering.{no_parts}
use Rattle.plan_read.proofs.gathering.no_parts.Given as goal

-- the duties so far stand before those that are left
abbrev pub invariant-loop-group : goal.invariant-loop-group
invariant-loop-group l = map no_parts l.groups ≡ l.duties.items ++ map no_parts (drop l.group-index l.groups)
