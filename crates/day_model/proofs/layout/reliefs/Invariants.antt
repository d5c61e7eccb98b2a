use Rattle.std.proofs.Common.{◌≡◌, take}
use Rattle.day_model.specs.Layout.{reliefs_of}
use Rattle.day_model.proofs.layout.reliefs.Given as goal

-- the trips that are passed stand there
abbrev pub invariant-loop-trip : goal.invariant-loop-trip
invariant-loop-trip l = l.relieved ≡ reliefs_of l.params (take l.trip-index l.trips)
