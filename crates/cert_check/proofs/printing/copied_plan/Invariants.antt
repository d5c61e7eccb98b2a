use Rattle.std.proofs.Common.{◌≡◌, ◌++◌, drop}
use Rattle.cert_check.proofs.printing.copied_plan.Given as goal

-- the columns so far stand before those that are left
abbrev pub invariant-loop-column : goal.invariant-loop-column
invariant-loop-column l = record {
  all : l.column-items ≡ l.plan.columns;
  copied : l.plan.columns ≡ l.columns ++ drop l.column-index l.plan.columns;
}
