use Rattle.std.proofs.Common.{◌≡◌, All, drop, length}
use Rattle.day_model.specs.Ranges.{IsDaily}
use Rattle.day_model.proofs.Timed.{before, rest_of}
use Rattle.day_model.proofs.building.time_rows.Given as goal

-- the trips of the places that are passed stand before those of the others
abbrev pub invariant-loop-place : goal.invariant-loop-place
invariant-loop-place l = record {
  so_far : rest_of l.net l.version l.rows l.places ≡ before l.trips (rest_of l.net l.version l.rows (drop l.place-index l.places));
  daily : All IsDaily l.trips;
  count : length l.trips ≡ l.place-index;
}
