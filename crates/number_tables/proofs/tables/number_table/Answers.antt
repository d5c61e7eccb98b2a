use Rattle.number_tables.specs.Numbers.{texts}
use Rattle.number_tables.proofs.PlainLemmas.{plain_table}
use Rattle.number_tables.proofs.tables.number_table.Goals as goal

pub returns-in_err-bytes_of-clause-plain : goal.returns-in_err-bytes_of-clause-plain
returns-in_err-bytes_of-clause-plain c = plain_table c.args.name.now (texts c.args.columns.now)

pub returns-in_err-number_heads-clause-plain : goal.returns-in_err-number_heads-clause-plain
returns-in_err-number_heads-clause-plain c = plain_table c.args.name.now (texts c.args.columns.now)

pub returns-clause-plain : goal.returns-clause-plain
returns-clause-plain c = plain_table c.args.name.now (texts c.args.columns.now)
