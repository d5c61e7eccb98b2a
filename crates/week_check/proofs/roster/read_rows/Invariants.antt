use Rattle.std.proofs.Common.{◌≡◌, ◌+◌, ◌++◌, [], drop, map}
use Rattle.week_check.specs.Roster.{fields_at, row_faults, row_turn}
use Rattle.week_check.proofs.roster.read_rows.Given as goal

-- nothing is wrong so far, and the duties so far stand before those of the other rows
abbrev pub invariant-loop-place : goal.invariant-loop-place
invariant-loop-place l = record {
  faults : row_faults (l.place + 1) l.keys.keys (map (fields_at l.places) (drop l.place l.rows))
      ≡ row_faults 1 [] (map (fields_at l.places) l.rows);
  turns : l.turns.items ++ map row_turn (map (fields_at l.places) (drop l.place l.rows)) ≡ map row_turn (map (fields_at l.places) l.rows);
}
