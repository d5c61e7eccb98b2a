use Rattle.std.proofs.Common.{◌≡◌, drop}
use Rattle.vdv452_rows.specs.Rows.{first}
use Rattle.plan_params.specs.Faults.{row_kinds}
use Rattle.plan_params.proofs.testing.row_kind.Given as goal

-- nothing is wrong so far
abbrev pub invariant-loop-reference : goal.invariant-loop-reference
invariant-loop-reference l =
    first (row_kinds l.net l.version (drop l.reference-index l.references) l.row) ≡ first (row_kinds l.net l.version l.references l.row)
