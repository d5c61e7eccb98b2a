use Rattle.std.proofs.Common.{◌≡◌, drop, codes}
use Rattle.std.specs.List.{find}
use Rattle.vdv452_rows.specs.Schema.{trips as trips_schema}
use Rattle.vdv452_rows.specs.Rows.{has_name, table_of}
use Rattle.planner_run.proofs.trips.trips_place.Given as goal

-- the table is among those left
abbrev pub invariant-loop-place : goal.invariant-loop-place
invariant-loop-place l = record {
  left : find (has_name l.name) (drop l.place l.tables) ≡ table_of trips_schema l.tables;
  name : l.name ≡ codes "REC_FRT";
}
