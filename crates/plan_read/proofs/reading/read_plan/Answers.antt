use Rattle.plan_read.proofs.Outcomes.{fault-read, text-read}
use Rattle.plan_read.proofs.reading.read_plan.Goals as goal

pub returns-in-Ok-clause-read : goal.returns-in-Ok-clause-read
returns-in-Ok-clause-read c = text-read c.args.day.now c.args.tables.now c.in-Ok.text c.in-Ok.ensures.said

pub returns-in-Err-clause-read : goal.returns-in-Err-clause-read
returns-in-Err-clause-read c =
    fault-read c.args.day.now c.args.tables.now c.in-Err.fault c.fault_of_table.result c.fault_of_table.ensures c.in-Err.ensures.said
