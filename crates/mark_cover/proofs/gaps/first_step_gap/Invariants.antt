use Rattle.mark_cover.specs.Searches.{AreMetBelow}
use Rattle.mark_cover.proofs.gaps.first_step_gap.Given as goal

abbrev pub invariant-loop-place : goal.invariant-loop-place
invariant-loop-place g l = AreMetBelow (g.M.Marks.marking l.m) l.marks l.place
