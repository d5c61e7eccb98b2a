use Rattle.std.proofs.Common.{◌≡◌, ◌++◌, drop}
use Rattle.cover_rest.specs.Rest as spec
use Rattle.cover_rest.proofs.write.written_out.Given as goal

-- what is written and what is left are all
abbrev pub invariant-loop-column : goal.invariant-loop-column
invariant-loop-column l =
    l.columns ++ spec.written_plan l.bodies (drop l.column-index l.column-items) ≡ spec.written_plan l.bodies l.plan.columns
