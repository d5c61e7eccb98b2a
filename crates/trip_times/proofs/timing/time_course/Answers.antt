use Rattle.std.proofs.Common.{sym, ◌∙◌}
use Rattle.trip_times.specs.Timing.{dwell_at, run_time_of}
use Rattle.trip_times.proofs.TimingLemmas.{course_end}
use Rattle.trip_times.proofs.timing.time_course.Goals as goal

pub returns-in-Ok : goal.returns-in-Ok
returns-in-Ok c =
    course_end (run_time_of c.args.net.now c.args.version c.args.area c.args.row.now.group)
    (dwell_at c.args.net.now c.args.version c.args.row.now) c.args.row.now c.args.course.now c.in-Some.points.now
    c.in-Some-split_last.inner.now c.in-Some.first.now c.in-Some-split_last.last.now
    c.in-Some.ensures.cases.0 c.in-Some-split_last.ensures.cases.0 c.in-Ok.seconds c.dwell_seconds-stands.result c.timely_trip.result
    (sym c.in-Ok.is ∙ c.run_seconds.ensures) c.dwell_seconds-stands.ensures c.timely_trip.ensures
