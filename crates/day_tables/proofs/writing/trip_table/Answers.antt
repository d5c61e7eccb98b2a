use Rattle.std.proofs.Common.{◌≤◌, ◌^◌, All, length, ap, sym, ◌∙◌}
use Rattle.vdv452_rows.specs.declared.rows.TripRow.{TripRow}
use Rattle.day_calendar.proofs.Places.{places_within}
use Rattle.day_tables.proofs.DayLemmas.{day_fids, each_row}
use Rattle.day_tables.proofs.writing.trip_table.Goals as goal

pub placed_rows-requires-clause-within : goal.placed_rows-requires-clause-within
placed_rows-requires-clause-within c =
    let kind = c.args.day.now.kind in
    rw c.rows.ensures.rows (places_within c.args.net.now.trips kind.version kind.kind c.args.day.now.rows c.requires.rows)

pub placed_rows-requires-clause-fids : goal.placed_rows-requires-clause-fids
placed_rows-requires-clause-fids c =
    let day = c.args.day.now in
    let small : All (λ (row : TripRow). row.fid ≤ 10 ^ 18) c.args.net.now.trips = rw c.trip_rows.ensures.rows at c.trip_rows.ensures.fids in
    rw c.trips.ensures.trips (day_fids c.args.net.now day.kind day c.requires small)

pub returns-clause-each : goal.returns-clause-each
returns-clause-each c =
    each_row c.number_table.result c.args.net.now c.args.day.now (ap (λ rows. length rows) (sym c.rows.ensures.rows) ∙ c.rows.ensures.count)
