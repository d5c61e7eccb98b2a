use Rattle.std.proofs.Common.{◌≡◌, ◌+◌, [], drop}
use Rattle.vdv452_rows.specs.Found.{found_row_faults}
use Rattle.vdv452_rows.proofs.table.check_rows.Given as goal

-- nothing is wrong so far, and the keys are those of the rows before
abbrev pub invariant-loop-place : goal.invariant-loop-place
invariant-loop-place l =
    found_row_faults l.table l.found l.keys (l.place + 1) (drop l.place l.rows) ≡ found_row_faults l.table l.found [] 1 l.rows
