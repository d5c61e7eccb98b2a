-- Promise: the names of the faults of a trip.
use Rattle.std.specs.Prelude.{ℕ, List, codes}
use Rattle.trip_times.specs.declared.trip.TripFault.{TripFault}
use Rattle.trip_times.specs.declared.trip.TripFault.TheVariants as faults

abbrev pub name_of : TripFault → List ℕ
name_of faults.NoRoute = codes "NoRoute"
name_of faults.ShortRoute = codes "ShortRoute"
name_of (faults.NoRunTime from to) = codes "NoRunTime"
name_of faults.PastEnd = codes "PastEnd"
