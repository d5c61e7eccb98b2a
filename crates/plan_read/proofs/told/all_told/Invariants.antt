use Rattle.std.proofs.Common.{◌≡◌, ◌++◌, drop}
use Rattle.plan_read.specs.Told.{all_told}
use Rattle.plan_read.proofs.told.all_told.Given as goal

-- the trips so far stand before those that are left
abbrev pub invariant-loop-place : goal.invariant-loop-place
invariant-loop-place l = all_told 0 l.trips ≡ l.told ++ all_told l.place (drop l.place l.trips)
