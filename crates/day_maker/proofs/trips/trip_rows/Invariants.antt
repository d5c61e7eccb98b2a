use Rattle.std.proofs.Common.{◌≡◌, ◌+◌, ◌-◌, ◌++◌}
use Rattle.day_maker.specs.Made.{first_state, rows_of, trip_rows}
use Rattle.day_maker.proofs.trips.trip_rows.Given as goal

-- the rows so far stand before those of the trips left
abbrev pub invariant-loop-number : goal.invariant-loop-number
invariant-loop-number l =
    rows_of (trip_rows l.trips 1 (first_state l.seed)) ≡ l.rows ++ rows_of (trip_rows (l.trips - l.number) (l.number + 1) l.state)
