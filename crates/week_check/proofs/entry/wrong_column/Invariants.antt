use Rattle.std.proofs.Common.{◌≡◌, drop, not}
use Rattle.std.specs.List.{find}
use Rattle.week_check.specs.Roster.{columns, is_right, wrong_column}
use Rattle.week_check.proofs.entry.wrong_column.Given as goal

-- the values so far are right
abbrev pub invariant-loop-column : goal.invariant-loop-column
invariant-loop-column l = find (λ column. not (is_right l.entry column)) (drop l.column-index columns) ≡ wrong_column l.entry
