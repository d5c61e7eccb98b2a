use Rattle.planner_run.proofs.ModelLemmas.{refused_by}
use Rattle.planner_run.proofs.model.network.Goals as goal

pub returns-in-Err-clause-cause : goal.returns-in-Err-clause-cause
returns-in-Err-clause-cause c = rw c.table_status.ensures (refused_by c.args.needs c.args.tables.now c.in-Err.fault c.in-Err.ensures.fault)
