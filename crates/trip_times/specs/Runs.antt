-- Inner: the run times of sections, or the first section without one.
use Rattle.std.specs.Prelude.{ℕ, Option, Some, None, Result, Ok, Err}
use Rattle.plan_core.specs.declared.types.Point.{Point}
use Rattle.trip_times.specs.declared.trip.TripFault.{TripFault}
use Rattle.trip_times.specs.declared.trip.TripFault.TheVariants.{NoRunTime}

abbrev pub runs_if : Option (Point × Point) → ℕ → Result ℕ TripFault
runs_if (Some link) seconds = Err (NoRunTime link.0 link.1)
runs_if None seconds = Ok seconds
