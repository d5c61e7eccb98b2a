use Rattle.std.proofs.Common.{◌≡◌, ◌+◌, ◌++◌, drop}
use Rattle.number_tables.specs.Numbers.{number_rows}
use Rattle.umlauf_write.specs.Answers.{bound_rows}
use Rattle.umlauf_write.proofs.bounds.bound_rows.Given as goal

-- the rows so far stand before those of the other bounds
abbrev pub invariant-loop-place : goal.invariant-loop-place
invariant-loop-place l =
    number_rows (bound_rows 1 l.values l.bounds)
    ≡ l.rows ++ number_rows (bound_rows (1 + l.place) (drop l.place l.values) (drop l.place l.bounds))
