use Rattle.std.proofs.Common.{◌≡◌, ◌++◌, drop}
use Rattle.number_tables.specs.Numbers.{AreFieldNumbers, number_row}
use Rattle.number_tables.proofs.rows.number_row.Given as goal

-- the fields so far and those of the numbers left are the row
abbrev pub invariant-loop-number : goal.invariant-loop-number
invariant-loop-number l = record {
  made : l.row ++ number_row (drop l.number-index l.numbers) ≡ number_row l.numbers;
  numbers : AreFieldNumbers (drop l.number-index l.numbers);
}
