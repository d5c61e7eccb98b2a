use Rattle.std.proofs.Common.{◌≡◌, ◌++◌, drop}
use Rattle.vdv452_tables.proofs.course.copied_stops.Given as goal

-- what is copied and what is left to copy are the whole
abbrev pub invariant-loop-row : goal.invariant-loop-row
invariant-loop-row l = l.copies.items ++ drop l.row-index l.rows ≡ l.rows
