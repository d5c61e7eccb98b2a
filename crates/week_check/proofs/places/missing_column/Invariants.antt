use Rattle.std.proofs.Common.{◌≡◌, drop}
use Rattle.std.specs.List.{find}
use Rattle.week_check.specs.Roster.{columns, is_missing, missing_column}
use Rattle.week_check.proofs.places.missing_column.Given as goal

-- no column so far is missing
abbrev pub invariant-loop-column : goal.invariant-loop-column
invariant-loop-column l = find (is_missing l.heads) (drop l.column-index columns) ≡ missing_column l.heads
