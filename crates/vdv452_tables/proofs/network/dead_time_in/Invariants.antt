use Rattle.std.proofs.Common.{◌≡◌, drop}
use Rattle.vdv452_tables.specs.Keys.{dead_key_of, move_key_eq, value_at}
use Rattle.vdv452_tables.proofs.network.dead_time_in.Given as goal

-- the rows that are left tell what all rows tell
abbrev pub invariant-loop-row : goal.invariant-loop-row
invariant-loop-row l =
    value_at move_key_eq dead_key_of (λ row. row.time) (drop l.row-index l.rows) l.key
    ≡ value_at move_key_eq dead_key_of (λ row. row.time) l.rows l.key
