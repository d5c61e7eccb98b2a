use Rattle.std.proofs.Common.{◌≤◌, ◌*◌, length, pos}
use Rattle.day_model.specs.Begins.{AreMinutes, IsFirstFrom}
use Rattle.day_model.proofs.departures.minutes_of.Given as goal

-- the minutes that are passed have their places
abbrev pub invariant-loop-minute : goal.invariant-loop-minute
invariant-loop-minute l = record {
  within : l.trip ≤ length l.trips;
  first : IsFirstFrom l.trips (pos (60 * l.minute)) l.trip;
  so_far : AreMinutes l.trips l.minute l.minutes.items;
}
