use Rattle.std.proofs.Common.{◌≡◌, ◌++◌, drop}
use Rattle.vdv451_text.proofs.copies.copied_columns.Given as goal

-- the copy so far and the columns left are all columns
abbrev pub invariant-loop-column : goal.invariant-loop-column
invariant-loop-column l = l.copy ++ drop l.column-index l.columns ≡ l.columns
