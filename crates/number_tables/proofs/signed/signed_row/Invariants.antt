use Rattle.std.proofs.Common.{◌≡◌, ◌++◌, drop}
use Rattle.number_tables.specs.Signed.{signed_row}
use Rattle.number_tables.proofs.signed.signed_row.Given as goal

-- the fields so far and those of the numbers left are the row
abbrev pub invariant-loop-number : goal.invariant-loop-number
invariant-loop-number l = l.row ++ signed_row (drop l.number-index l.numbers) ≡ signed_row l.numbers
