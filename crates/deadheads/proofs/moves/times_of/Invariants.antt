use Rattle.std.proofs.Common.{◌≤◌, drop, length}
use Rattle.deadheads.specs.DeadTimes.{AreTimesOf}
use Rattle.deadheads.proofs.moves.times_of.Given as goal

-- The times of the rows that are passed. Rows are passed from the last to the first, and a row's time takes the place of one with
-- the same points; so of those passed the first row counts, as the definition has it. Rows of other versions, areas or groups are
-- passed without a trace. At the end all rows are passed, and the index tells what UEB_FZT tells.
abbrev pub invariant-loop-left : goal.invariant-loop-left
invariant-loop-left l = record {
  within : l.left ≤ length l.rows;
  told : AreTimesOf (drop l.left l.rows) l.version l.area l.group l.times;
}

abbrev pub decreases-loop-left : goal.decreases-loop-left
decreases-loop-left l = l.left
