use Rattle.day_calendar.proofs.OneOrder.{answer_only}
use Rattle.day_calendar.proofs.Places.{answer_below, answer_few, answer_within}
use Rattle.day_calendar.proofs.trips.day_rows.Goals as goal

pub returns-clause-within : goal.returns-clause-within
returns-clause-within c =
    rw (← c.trip_rows.ensures.rows)
    (answer_within c.trip_rows.result.now c.args.kind.now.version c.args.kind.now.kind c.ordered_places.result c.ordered_places.ensures)

pub returns-clause-count : goal.returns-clause-count
returns-clause-count c =
    rw (← c.trip_rows.ensures.rows)
    (answer_few c.trip_rows.result.now c.args.kind.now.version c.args.kind.now.kind c.ordered_places.result c.ordered_places.ensures)

pub returns-clause-only : goal.returns-clause-only
returns-clause-only c =
    λ others there. answer_only c.args.net.now.trips c.args.kind.now.version c.args.kind.now.kind c.ordered_places.result
    (rw (← c.trip_rows.ensures.rows) c.ordered_places.ensures) others there

pub returns-clause-few : goal.returns-clause-few
returns-clause-few c = answer_below c.trip_rows.result.now c.args.kind.now.version c.args.kind.now.kind 4294967296 c.ordered_places.result
    c.trip_rows.ensures.few c.ordered_places.ensures
