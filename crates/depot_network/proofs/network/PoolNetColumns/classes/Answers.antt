use Rattle.std.proofs.Common.{List, All, subst}
use Rattle.cover_core.specs.Ranges.{HasFewPlaces, HasModestWorths}
use Rattle.trip_times.specs.declared.trip.Trip.{Trip}
use Rattle.plan_params.specs.declared.rows.ParamRows.{ParamRows}
use Rattle.plan_params.specs.Limits.{HaveRanges}
use Rattle.day_model.specs.Ranges.{IsDaily}
use Rattle.depot_network.specs.Network.{NetFacts, blocks, is_count}
use Rattle.depot_network.proofs.Modest.{few_vehicles, modest_blocks}
use Rattle.depot_network.proofs.network.PoolNetColumns.classes.Goals as goal

pub returns-clause-places : goal.returns-clause-places
returns-clause-places c =
    let day = c.self.inside.day.now in
    let ranges : HaveRanges day.params = subst (λ (p : ParamRows). HaveRanges p) c.params.ensures.settings c.params.ensures.ranges in
    let Few : NetFacts → Type 0 = λ net. HasFewPlaces (blocks net) in
    subst Few c.self.view_is (few_vehicles (record { day = day; counts = is_count c.self.inside.worth }) ranges)

pub returns-clause-worths : goal.returns-clause-worths
returns-clause-worths c =
    let day = c.self.inside.day.now in
    let daily : All IsDaily day.trips = subst (λ (ts : List Trip). All IsDaily ts) c.trips.ensures.trips c.trips.ensures.daily in
    let ranges : HaveRanges day.params = subst (λ (p : ParamRows). HaveRanges p) c.params.ensures.settings c.params.ensures.ranges in
    let Modest : NetFacts → Type 0 = λ net. HasModestWorths (blocks net) in
    subst Modest c.self.view_is (modest_blocks (record { day = day; counts = is_count c.self.inside.worth }) daily ranges)
