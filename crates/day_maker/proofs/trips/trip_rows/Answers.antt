use Rattle.std.proofs.Common.{rules}
use Rattle.day_maker.proofs.TripLemmas.{trip_more}
use Rattle.day_maker.proofs.trips.trip_rows.Goals as goal

pub loop-number-preserved : goal.loop-number-preserved
loop-number-preserved c =
    trip_more c.args.trips c.loop-number.number c.loop-number.state c.next_state-line.result c.next_state-variant.result
    c.next_state-departure.result _ c.loop-number.rows c.add_trip.new.rows (search rules) c.next_state-line.ensures
    c.next_state-variant.ensures c.next_state-departure.ensures (search rules) c.loop-number.invariant
