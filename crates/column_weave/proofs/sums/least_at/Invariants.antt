use Rattle.std.proofs.Common.{length}
use Rattle.column_weave.specs.Sums.{IsOpen}
use Rattle.column_weave.proofs.sums.least_at.Given as goal

abbrev pub invariant-loop-link : goal.invariant-loop-link
invariant-loop-link l = IsOpen (length l.least) l.best
