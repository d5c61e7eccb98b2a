use Rattle.planner_run.proofs.lines.tell_trip.Goals as goal

pub returns-in-NoRunTime : goal.returns-in-NoRunTime
returns-in-NoRunTime g c = λ day. rw c.in-NoRunTime.is (rw c.name.ensures at c.tell_gap.ensures)
