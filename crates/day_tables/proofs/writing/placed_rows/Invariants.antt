use Rattle.std.proofs.Common.{◌≡◌, ◌++◌, drop}
use Rattle.number_tables.specs.Numbers.{number_rows}
use Rattle.day_tables.specs.DayTables.{trip_rows}
use Rattle.day_tables.proofs.writing.placed_rows.Given as goal

-- the rows so far and those of the trips left are all rows
abbrev pub invariant-loop-number : goal.invariant-loop-number
invariant-loop-number l =
    l.rows ++ number_rows (trip_rows l.net l.version (drop l.number l.places) (drop l.number l.trips))
    ≡ number_rows (trip_rows l.net l.version l.places l.trips)
