use Rattle.std.proofs.Common.{drop, rules, take}
use Rattle.vdv452_tables.specs.Calendar.{place_schemas}
use Rattle.vdv452_tables.proofs.PartLemmas.{front_refused}
use Rattle.vdv452_tables.proofs.reading.read_places.Goals as goal

pub returns-in_err-net-clause-wrong : goal.returns-in_err-net-clause-wrong
returns-in_err-net-clause-wrong c =
    front_refused c.args.tables.now (take 1 place_schemas) (drop 1 place_schemas) c.from_residual-in_err-net.result (search rules)

pub returns-in_err-net-2-clause-wrong : goal.returns-in_err-net-2-clause-wrong
returns-in_err-net-2-clause-wrong c =
    front_refused c.args.tables.now (take 2 place_schemas) (drop 2 place_schemas) c.from_residual-in_err-net-2.result (search rules)

pub returns-in_err-net-3-clause-wrong : goal.returns-in_err-net-3-clause-wrong
returns-in_err-net-3-clause-wrong c =
    front_refused c.args.tables.now (take 3 place_schemas) (drop 3 place_schemas) c.from_residual-in_err-net-3.result (search rules)
