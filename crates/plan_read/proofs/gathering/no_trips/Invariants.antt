use Rattle.std.proofs.Common.{◌≡◌, ◌++◌, drop, map}
use Rattle.plan_read.specs.Gathering.{no_trips}
use Rattle.plan_read.proofs.gathering.no_trips.Given as goal

-- the empty lists so far stand before those of the blocks that are left
abbrev pub invariant-loop-class : goal.invariant-loop-class
invariant-loop-class l = map no_trips l.classes ≡ l.lists.items ++ map no_trips (drop l._class-index l.classes)
