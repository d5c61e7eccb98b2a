use Rattle.std.proofs.Common.{◌≡◌, ◌+◌, ◌++◌, drop, map}
use Rattle.number_tables.specs.Signed.{signed_row, signed_rows}
use Rattle.umlauf_write.specs.Answers.{leg_numbers, leg_rows}
use Rattle.umlauf_write.specs.Tables.{numbered}
use Rattle.umlauf_write.proofs.legs.add_legs.Given as goal

-- the rows so far stand before those of the other legs
abbrev pub invariant-loop-place : goal.invariant-loop-place
invariant-loop-place l =
    l.fn.rows ++ signed_rows (leg_rows l.trips (l.block + 1) l.legs)
    ≡ l.rows ++ map signed_row (numbered (leg_numbers l.trips (l.block + 1)) (1 + l.place) (drop l.place l.legs))
