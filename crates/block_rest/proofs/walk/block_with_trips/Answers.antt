use Rattle.std.proofs.Common.{[], All, sym, subst, ◌∙◌, rules, List}
use Rattle.cover_core.proofs.Values.{AllBelow-get}
use Rattle.trip_times.specs.declared.trip.Trip.{Trip}
use Rattle.day_model.specs.Ranges.{IsDaily}
use Rattle.depot_network.specs.Open.{opening}
use Rattle.depot_network.proofs.Opens.{opening_safe}
use Rattle.rest_labels.proofs.Walking.{after-more}
use Rattle.block_rest.proofs.walk.block_with_trips.Goals as goal

pub next_open-requires-clause-item : goal.next_open-requires-clause-item
next_open-requires-clause-item c = AllBelow-get _ c.args.rest.now c.loop-trip.trip-index c.requires.rest (search rules)

pub loop-trip-preserved : goal.loop-trip-preserved
loop-trip-preserved c =
    let net = c.args.net.now in
    let P : List Trip → Type 0 = All IsDaily in
    let daily : All IsDaily net.day.trips = subst P (search rules) c.trips.ensures.daily in
    record {
      fits = (opening_safe net.day net.counts [] c.args.pool.now daily c.requires.ranges tt).steps c.loop-trip.open
          c.in_ok-open.open _ c.loop-trip.invariant.fits (sym c.in_ok-open.ensures);
      walked = c.loop-trip.invariant.walked ∙ after-more (opening net.day net.counts [] c.args.pool.now) c.loop-trip.open _ c.args.rest.now
          c.loop-trip.trip-index (search rules) c.in_ok-open.ensures;
    }
