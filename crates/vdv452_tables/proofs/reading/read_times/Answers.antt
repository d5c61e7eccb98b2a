use Rattle.std.proofs.Common.{drop, rules, take}
use Rattle.vdv452_tables.specs.Calendar.{time_schemas}
use Rattle.vdv452_tables.proofs.PartLemmas.{front_refused}
use Rattle.vdv452_tables.proofs.reading.read_times.Goals as goal

pub returns-in_err-net-clause-wrong : goal.returns-in_err-net-clause-wrong
returns-in_err-net-clause-wrong c =
    front_refused c.args.tables.now (take 1 time_schemas) (drop 1 time_schemas) c.from_residual-in_err-net.result (search rules)

pub returns-in_err-net-2-clause-wrong : goal.returns-in_err-net-2-clause-wrong
returns-in_err-net-2-clause-wrong c =
    front_refused c.args.tables.now (take 2 time_schemas) (drop 2 time_schemas) c.from_residual-in_err-net-2.result (search rules)
