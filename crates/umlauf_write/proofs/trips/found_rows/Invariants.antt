use Rattle.std.proofs.Common.{◌≡◌, ◌++◌, drop}
use Rattle.umlauf_write.specs.Tables.{numbered}
use Rattle.umlauf_write.specs.Trips.{found_row}
use Rattle.umlauf_write.proofs.trips.found_rows.Given as goal

-- the rows so far stand before those of the other trips
abbrev pub invariant-loop-number : goal.invariant-loop-number
invariant-loop-number l = numbered (found_row l.table l.day.kind.version l.blocks) 0 l.day.trips
    ≡ l.rows ++ numbered (found_row l.table l.day.kind.version l.blocks) l.number (drop l.number l.day.trips)
