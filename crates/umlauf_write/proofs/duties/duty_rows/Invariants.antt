use Rattle.std.proofs.Common.{◌≡◌, ◌+◌, ◌++◌, drop, map}
use Rattle.number_tables.specs.Signed.{signed_row, signed_rows}
use Rattle.umlauf_write.specs.Answers.{duty_row}
use Rattle.umlauf_write.specs.Tables.{numbered}
use Rattle.umlauf_write.proofs.duties.duty_rows.Given as goal

-- the rows so far stand before those of the other duties
abbrev pub invariant-loop-place : goal.invariant-loop-place
invariant-loop-place l =
    signed_rows (numbered (duty_row l.day l.pieces) 1 l.duties)
    ≡ l.rows ++ map signed_row (numbered (duty_row l.day l.pieces) (1 + l.place) (drop l.place l.duties))
