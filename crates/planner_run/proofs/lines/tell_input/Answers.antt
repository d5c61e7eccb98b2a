use Rattle.planner_run.proofs.lines.tell_input.Goals as goal

pub returns-in-Text : goal.returns-in-Text
returns-in-Text g c = λ day. rw c.in-Text.is (c.tell_text.ensures day)

pub returns-in-Table : goal.returns-in-Table
returns-in-Table g c = λ day. rw c.in-Table.is (c.tell_table.ensures day)

pub returns-in-Params : goal.returns-in-Params
returns-in-Params g c = λ day. rw c.in-Params.is (c.tell_params.ensures day)

pub returns-in-Trip : goal.returns-in-Trip
returns-in-Trip g c = λ day. rw c.in-Trip.is (c.tell_trip.ensures day)

pub returns-in-Days : goal.returns-in-Days
returns-in-Days g c = λ day. rw c.in-Days.is (c.tell_days.ensures day)
