use Rattle.std.proofs.Common.{◌≡◌, ◌++◌, ◌<◌, All, length, drop}
use Rattle.planner_run.specs.Trips.{rows_at}
use Rattle.planner_run.proofs.trips.picked_rows.Given as goal

-- the rows so far and those at the places left are the rows at all places
abbrev pub invariant-loop-place : goal.invariant-loop-place
invariant-loop-place l = record {
  picked : l.picked ++ rows_at l.rows (drop l.place-index l.places) ≡ rows_at l.rows l.places;
  there : All (λ place. place < length l.rows) (drop l.place-index l.places);
}
