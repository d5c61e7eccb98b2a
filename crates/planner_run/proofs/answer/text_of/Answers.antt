use Rattle.planner_run.proofs.answer.text_of.Goals as goal

pub returns-in-Trips-clause-written : goal.returns-in-Trips-clause-written
returns-in-Trips-clause-written g c = rw c.in-Trips.is (rw c.as_slice.ensures at c.trips_text.ensures.written)

pub returns-in-Day-clause-written : goal.returns-in-Day-clause-written
returns-in-Day-clause-written g c = rw c.in-Day.is (rw c.as_slice-in-Day.ensures at c.day_text.ensures.written)

pub returns-in-Plan-clause-written : goal.returns-in-Plan-clause-written
returns-in-Plan-clause-written g c = rw c.in-Plan.is (rw c.method_of-method.ensures at c.plan_text.ensures.written)

pub returns-in-Certify-clause-written : goal.returns-in-Certify-clause-written
returns-in-Certify-clause-written g c = rw c.in-Certify.is (rw c.method_of-method.ensures at c.certificate_text.ensures.written)
