use Rattle.std.proofs.Common.{◌≡◌, Some, length, slice_index_or, sym, ◌∙◌, ap}
use Rattle.vdv452_tables.specs.declared.reading.Needs.TheVariants as needs
use Rattle.vdv452_tables.specs.Calendar.{net_of}
use Rattle.planner_run.proofs.TripLemmas.{not_missing, trips_count, trips_there}
use Rattle.planner_run.proofs.trips.trips_text.Goals as goal

pub rows_text-requires-clause-within : goal.rows_text-requires-clause-within
rows_text-requires-clause-within c =
    let is : c.index-tables-trips_place.result ≡ slice_index_or c.args.tables.now c.trips_place.result c.index-tables-trips_place.result =
    c.index-tables-trips_place.is in
    let found = c.trips_place.ensures.found c.index-tables-trips_place.result ∙ ap (λ t. Some t) (sym is) in
    let count : length (net_of needs.Calendar c.args.tables.now).trips ≡ length c.index-tables-trips_place.result.rows =
    trips_count c.args.tables.now c.index-tables-trips_place.result found in
    rw (c.as_slice.ensures, ← count) c.in_ok-found.ensures.within

pub trips_place-requires : goal.trips_place-requires
trips_place-requires c = let there = trips_there c.args.tables.now c.in_ok-found.ensures.faultless in
    not_missing c.args.tables.now there.0 there.1
