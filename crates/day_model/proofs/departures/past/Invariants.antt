use Rattle.std.proofs.Common.{pos}
use Rattle.day_model.specs.Begins.{IsFirstFrom}
use Rattle.day_model.proofs.departures.past.Given as goal

-- the trips that are passed begin before
abbrev pub invariant-loop-trip : goal.invariant-loop-trip
invariant-loop-trip l = IsFirstFrom l.trips (pos l.time) l.trip
