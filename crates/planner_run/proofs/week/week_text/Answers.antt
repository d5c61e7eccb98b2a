use Rattle.planner_run.proofs.WeekOutcomes.{roster_refused}
use Rattle.planner_run.proofs.week.week_text.Goals as goal

pub returns-in-Err-clause-cause : goal.returns-in-Err-clause-cause
returns-in-Err-clause-cause c = rw c.roster_status.ensures (roster_refused c.args.tables.now c.in-Err.fault c.in-Err.ensures.wrong)
