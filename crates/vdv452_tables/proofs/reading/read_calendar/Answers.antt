use Rattle.std.proofs.Common.{drop, rules, take}
use Rattle.vdv452_tables.specs.declared.reading.Needs.TheVariants as needs
use Rattle.vdv452_tables.specs.Calendar.{schemas_of}
use Rattle.vdv452_tables.proofs.PartLemmas.{front_refused}
use Rattle.vdv452_tables.proofs.reading.read_calendar.Goals as goal

pub returns-in_err-net-clause-wrong : goal.returns-in_err-net-clause-wrong
returns-in_err-net-clause-wrong c =
    front_refused c.args.tables.now (take 1 (schemas_of needs.Calendar)) (drop 1 (schemas_of needs.Calendar))
    c.from_residual-in_err-net.result (search rules)

pub returns-in_err-net-2-clause-wrong : goal.returns-in_err-net-2-clause-wrong
returns-in_err-net-2-clause-wrong c =
    front_refused c.args.tables.now (take 2 (schemas_of needs.Calendar)) (drop 2 (schemas_of needs.Calendar))
    c.from_residual-in_err-net-2.result (search rules)
