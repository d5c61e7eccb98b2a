use Rattle.std.proofs.Common.{◌≡◌, ◌+◌, ◌++◌, drop, map}
use Rattle.number_tables.specs.Signed.{signed_row, signed_rows}
use Rattle.umlauf_write.specs.Answers.{part_row, part_rows}
use Rattle.umlauf_write.specs.Tables.{numbered}
use Rattle.umlauf_write.proofs.duties.add_parts.Given as goal

-- the rows so far stand before those of the other pieces
abbrev pub invariant-loop-place : goal.invariant-loop-place
invariant-loop-place l =
    l.fn.rows ++ signed_rows (part_rows l.pieces (l.duty + 1) l.column)
    ≡ l.rows ++ map signed_row (numbered (part_row l.pieces (l.duty + 1)) (1 + l.place) (drop l.place l.items))
