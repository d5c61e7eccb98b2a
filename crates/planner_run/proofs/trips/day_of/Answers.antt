use Rattle.planner_run.proofs.TripLemmas.{trips_refused}
use Rattle.planner_run.proofs.trips.day_of.Goals as goal

pub returns-in-Err-clause-cause : goal.returns-in-Err-clause-cause
returns-in-Err-clause-cause c = trips_refused c.args.tables.now c.args.day c.in-Err.status c.in-Err.ensures.cause
