use Rattle.planner_run.proofs.TripLemmas.{one_plain_table, picked_plain}
use Rattle.planner_run.proofs.trips.rows_text.Goals as goal

pub write_tables-requires : goal.write_tables-requires
write_tables-requires c =
    one_plain_table c.in_ok-table.table
    (rw c.in_ok-table.ensures (picked_plain c.args.table.now c.args.places.now c.requires.plain c.requires.within))
