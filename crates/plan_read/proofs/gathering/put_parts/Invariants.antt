use Rattle.std.proofs.Common.{◌≡◌, drop}
use Rattle.plan_read.specs.Gathering.{with_parts}
use Rattle.plan_read.proofs.gathering.put_parts.Given as goal

-- once the pieces that are left are put, all are
abbrev pub invariant-loop-entry : goal.invariant-loop-entry
invariant-loop-entry l = with_parts l.initial.duties l.entries ≡ with_parts l.duties (drop l.entry-index l.entries)
