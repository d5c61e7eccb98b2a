use Rattle.std.proofs.Common.{◌≡◌, ◌++◌, drop}
use Rattle.vdv451_text.proofs.copies.copied_row.Given as goal

-- the copy so far and the fields left are the row
abbrev pub invariant-loop-field : goal.invariant-loop-field
invariant-loop-field l = l.copy ++ drop l.field-index l.row ≡ l.row
