use Rattle.std.proofs.Common.{drop, rules, take}
use Rattle.vdv452_tables.specs.Calendar.{trip_schemas}
use Rattle.vdv452_tables.proofs.PartLemmas.{front_refused}
use Rattle.vdv452_tables.proofs.reading.read_trips.Goals as goal

pub returns-in_err-net-clause-wrong : goal.returns-in_err-net-clause-wrong
returns-in_err-net-clause-wrong c =
    front_refused c.args.tables.now (take 1 trip_schemas) (drop 1 trip_schemas) c.from_residual-in_err-net.result (search rules)

pub returns-in_err-net-2-clause-wrong : goal.returns-in_err-net-2-clause-wrong
returns-in_err-net-2-clause-wrong c =
    front_refused c.args.tables.now (take 2 trip_schemas) (drop 2 trip_schemas) c.from_residual-in_err-net-2.result (search rules)

pub returns-in_err-net-3-clause-wrong : goal.returns-in_err-net-3-clause-wrong
returns-in_err-net-3-clause-wrong c =
    front_refused c.args.tables.now (take 3 trip_schemas) (drop 3 trip_schemas) c.from_residual-in_err-net-3.result (search rules)

pub returns-in_err-net-4-clause-wrong : goal.returns-in_err-net-4-clause-wrong
returns-in_err-net-4-clause-wrong c =
    front_refused c.args.tables.now (take 4 trip_schemas) (drop 4 trip_schemas) c.from_residual-in_err-net-4.result (search rules)
