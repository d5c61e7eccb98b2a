use Rattle.std.proofs.Common.{◌≤◌, length}
use Rattle.label_search.proofs.least.search.Given as goal

abbrev pub invariant-loop-first : goal.invariant-loop-first
invariant-loop-first g l = l.first-index ≤ length l.likely
