use Rattle.std.proofs.Common.{◌≡◌, ◌+◌, ◌++◌, drop}
use Rattle.number_tables.specs.Signed.{signed_rows}
use Rattle.umlauf_write.specs.Answers.{all_rows, part_rows}
use Rattle.umlauf_write.proofs.duties.all_parts.Given as goal

-- the rows so far stand before those of the other duties
abbrev pub invariant-loop-duty : goal.invariant-loop-duty
invariant-loop-duty l =
    signed_rows (all_rows (part_rows l.pieces) 1 l.duties)
    ≡ l.rows ++ signed_rows (all_rows (part_rows l.pieces) (1 + l.duty) (drop l.duty l.duties))
