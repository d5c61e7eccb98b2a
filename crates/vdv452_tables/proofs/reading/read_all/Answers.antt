use Rattle.std.proofs.Common.{◌++◌, rules}
use Rattle.vdv452_tables.specs.Calendar.{own_schemas, place_schemas, time_schemas, trip_schemas}
use Rattle.vdv452_tables.proofs.PartLemmas.{front_refused, rest_refused}
use Rattle.vdv452_tables.proofs.reading.read_all.Goals as goal

pub returns-in_err-read_places-clause-wrong : goal.returns-in_err-read_places-clause-wrong
returns-in_err-read_places-clause-wrong c =
    front_refused c.args.tables.now place_schemas (time_schemas ++ trip_schemas ++ own_schemas) c.from_residual.result (search rules)

pub returns-in_err-read_times-clause-wrong : goal.returns-in_err-read_times-clause-wrong
returns-in_err-read_times-clause-wrong c =
    let tables = c.args.tables.now in
    let result = c.from_residual-in_err-read_times.result in
    rest_refused tables place_schemas (time_schemas ++ trip_schemas ++ own_schemas) result c.in_ok-read_places.ensures.right
    (front_refused tables time_schemas (trip_schemas ++ own_schemas) result (search rules))

pub returns-in_err-read_trips-clause-wrong : goal.returns-in_err-read_trips-clause-wrong
returns-in_err-read_trips-clause-wrong c =
    let tables = c.args.tables.now in
    let result = c.from_residual-in_err-read_trips.result in
    rest_refused tables place_schemas (time_schemas ++ trip_schemas ++ own_schemas) result c.in_ok-read_places.ensures.right
    (rest_refused tables time_schemas (trip_schemas ++ own_schemas) result c.in_ok-read_times.ensures.right
    (front_refused tables trip_schemas own_schemas result (search rules)))

pub returns-in_err-read_own-clause-wrong : goal.returns-in_err-read_own-clause-wrong
returns-in_err-read_own-clause-wrong c =
    let tables = c.args.tables.now in
    let result = c.from_residual-in_err-read_own.result in
    rest_refused tables place_schemas (time_schemas ++ trip_schemas ++ own_schemas) result c.in_ok-read_places.ensures.right
    (rest_refused tables time_schemas (trip_schemas ++ own_schemas) result c.in_ok-read_times.ensures.right
    (rest_refused tables trip_schemas own_schemas result c.in_ok-read_trips.ensures.right (search rules)))
