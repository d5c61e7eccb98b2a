use Rattle.std.proofs.Common.{◌≡◌, ◌≤◌, drop, length}
use Rattle.vdv452_tables.specs.Calendar.{begun, latest}
use Rattle.vdv452_tables.proofs.network.latest_begun.Given as goal

-- the latest of the rows that are passed
abbrev pub invariant-loop-left : goal.invariant-loop-left
invariant-loop-left l = record { within : l.left ≤ length l.rows; found : l.found ≡ latest (begun (drop l.left l.rows) l.day) }

abbrev pub decreases-loop-left : goal.decreases-loop-left
decreases-loop-left l = l.left
