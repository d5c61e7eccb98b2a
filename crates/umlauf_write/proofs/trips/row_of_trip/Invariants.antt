use Rattle.std.proofs.Common.{◌≡◌, drop, filter, length}
use Rattle.std.specs.List.{find}
use Rattle.umlauf_write.specs.Trips.{is_row_of}
use Rattle.umlauf_write.proofs.trips.row_of_trip.Given as goal

-- the row is among those left
abbrev pub invariant-loop-row : goal.invariant-loop-row
invariant-loop-row l = record {
  first : find (is_row_of l.heads l.version l.fid) l.rows ≡ find (is_row_of l.heads l.version l.fid) (drop l.row-index l.rows);
  one : length (filter (is_row_of l.heads l.version l.fid) (drop l.row-index l.rows)) ≡ 1;
}
