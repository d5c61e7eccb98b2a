use Rattle.std.proofs.Common.{sym, subst}
use Rattle.plan_read.specs.Told.{DoesNotFall}
use Rattle.plan_read.proofs.reading.rows_said.Goals as goal

pub trip_entries-requires-clause-told : goal.trip_entries-requires-clause-told
trip_entries-requires-clause-told c = subst DoesNotFall (sym c.as_slice.ensures) c.in_ok-told.ensures.order
