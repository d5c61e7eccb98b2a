use Rattle.std.proofs.Common.{◌≡◌, ◌++◌, drop}
use Rattle.day_maker.specs.Made.{rows_for, rows_of}
use Rattle.day_maker.proofs.parts.rows_for.Given as goal

-- the rows so far stand before those of the lines or points left
abbrev pub invariant-loop-n : goal.invariant-loop-n
invariant-loop-n l = rows_of (rows_for l.part l.numbers) ≡ l.rows ++ rows_of (rows_for l.part (drop l.n-index l.numbers))
